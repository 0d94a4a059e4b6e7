use Rattle.snesl_data.specs.Types.{ty_of}
use Rattle.snesl_grammar.specs.tree.View.{tree_of}
use Rattle.snesl_types.proofs.Misfitting.{no_sequence}
use Rattle.snesl_types.proofs.misfits.type_of_no_sequence.Goals as goal

pub returns : goal.returns
returns c =
    no_sequence c.args.scope.now (tree_of c.args.source.now) (ty_of c.in_ok-ty.ty) c.is_sequence.result c.in_ok-ty.ensures c.is_sequence.ensures c.if-is_sequence.false
