use Rattle.snesl_data.specs.Types.{ty_of}
use Rattle.snesl_grammar.specs.tree.View.{tree_of}
use Rattle.snesl_types.proofs.Misfitting.{filter_in}
use Rattle.snesl_types.proofs.misfits.filter_misfit.Goals as goal

pub returns : goal.returns
returns c =
    filter_in c.args.scope.now c.args.at (tree_of c.args.item.now) (tree_of c.args.condition.now)
    (ty_of c.in_ok-_filtered._filtered) (ty_of c.in_ok-ty.ty) c.is_truth.result
    c.in_ok-_filtered.ensures c.in_ok-ty.ensures c.is_truth.ensures c.if-is_truth.false
