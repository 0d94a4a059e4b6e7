use Rattle.snesl_data.specs.Types.{ty_of}
use Rattle.snesl_grammar.specs.tree.View.{tree_of}
use Rattle.snesl_types.proofs.Misfitting.{operands_in}
use Rattle.snesl_types.proofs.misfits.operands_misfit.Goals as goal

pub returns-then-is_mismatch : goal.returns-then-is_mismatch
returns-then-is_mismatch c =
    operands_in c.args.scope.now c.args.at c.args.operator (tree_of c.args.left.now) (tree_of c.args.right.now)
    (ty_of c.in_ok-first.first) (ty_of c.in_ok-second.second) c.operator_type-answer.result
    c.in_ok-first.ensures c.in_ok-second.ensures c.operator_type-answer.ensures (c.is_mismatch.ensures c.if-is_mismatch.true)
