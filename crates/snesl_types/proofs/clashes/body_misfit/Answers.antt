use Rattle.snesl_data.specs.Types.{ty_of}
use Rattle.snesl_grammar.specs.tree.View.{tree_of, type_tree}
use Rattle.snesl_types.proofs.Misfitting.{another_type}
use Rattle.snesl_types.proofs.clashes.body_misfit.Goals as goal

pub returns : goal.returns
returns c =
    another_type c.args.scope.now (tree_of c.args.written.now.body) (type_tree c.args.written.now.result) (ty_of c.in_ok-wanted.wanted) (ty_of c.in_ok-found.found) c.is.result
    c.in_ok-wanted.ensures c.in_ok-found.ensures c.is.ensures c.if-is.false
