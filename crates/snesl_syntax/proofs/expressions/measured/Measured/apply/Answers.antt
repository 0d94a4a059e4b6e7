use Rattle.std.proofs.Common.{arith, ap, ◌∙◌}
use Rattle.snesl_grammar.specs.tree.Tree.{depth}
use Rattle.snesl_grammar.specs.tree.View.{tree_of}
use Rattle.snesl_grammar.proofs.OfTree.Arguments.{tree_of-Apply}
use Rattle.snesl_syntax.proofs.expressions.measured.Measured.apply.Goals as goal

pub invariant_of-result : goal.invariant_of-result
invariant_of-result c =
    let listed = ap tree_of c.in_ok-expr.ensures.ok ∙ tree_of-Apply c.args.function c.args.arguments.exprs in
    record { exact = omega (arith, ap depth listed) }

pub returns : goal.returns
returns c = ap tree_of c.in_ok-expr.ensures.ok ∙ tree_of-Apply c.args.function c.args.arguments.exprs
