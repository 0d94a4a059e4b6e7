use Rattle.snesl_data.specs.Types.{ty_of}
use Rattle.snesl_grammar.specs.tree.View.{tree_of}
use Rattle.snesl_types.proofs.Misfitting.{operand_in}
use Rattle.snesl_types.proofs.misfits.operand_misfit.Goals as goal

pub returns-then-is_mismatch : goal.returns-then-is_mismatch
returns-then-is_mismatch c =
    operand_in c.args.scope.now c.args.at c.args.operator (tree_of c.args.operand.now)
    (ty_of c.in_ok-ty.ty) c.prefix_type-answer.result
    c.in_ok-ty.ensures c.prefix_type-answer.ensures (c.is_mismatch.ensures c.if-is_mismatch.true)
