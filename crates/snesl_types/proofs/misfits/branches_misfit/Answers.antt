use Rattle.snesl_data.specs.Types.{ty_of}
use Rattle.snesl_grammar.specs.tree.View.{tree_of}
use Rattle.snesl_types.proofs.Misfitting.{branches_in}
use Rattle.snesl_types.proofs.misfits.branches_misfit.Goals as goal

pub returns : goal.returns
returns c =
    branches_in c.args.scope.now c.args.at (tree_of c.args.condition.now) (tree_of c.args.positive.now) (tree_of c.args.negative.now)
    (ty_of c.in_ok-condition.condition) (ty_of c.in_ok-positive.positive) (ty_of c.in_ok-negative.negative) c.branches_fit.result
    c.in_ok-condition.ensures c.in_ok-positive.ensures c.in_ok-negative.ensures c.branches_fit.ensures c.if-branches_fit.false
