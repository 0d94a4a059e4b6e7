use Rattle.std.proofs.Common.{arith, ap, ◌∙◌}
use Rattle.snesl_grammar.specs.tree.Tree.{always, depth}
use Rattle.snesl_grammar.specs.tree.View.{tree_of}
use Rattle.snesl_syntax.proofs.OfExpressions.Rows.{each_listed}
use Rattle.snesl_syntax.proofs.expressions.measured.Measured.each.Goals as goal

pub invariant_of-result : goal.invariant_of-result
invariant_of-result c =
    let listed = ap tree_of c.in_ok-expr.ensures.ok ∙ each_listed c.args.at c.args.body.expr.value c.args.bound.binders always in
    record { exact = omega (arith, ap depth listed) }

pub returns : goal.returns
returns c = ap tree_of c.in_ok-expr.ensures.ok ∙ each_listed c.args.at c.args.body.expr.value c.args.bound.binders always
