use Rattle.std.proofs.Common.{arith, ap, ◌∙◌}
use Rattle.snesl_grammar.specs.tree.View.{tree_of, trees_of}
use Rattle.snesl_grammar.specs.tree.Tree.{depth, depth_of_all}
use Rattle.snesl_syntax.proofs.OfExpressions.Rows.{trees_of-push, depth-push}
use Rattle.snesl_syntax.proofs.expressions.measured.Arguments.with.Goals as goal

pub invariant_of-result : goal.invariant_of-result
invariant_of-result c =
    let grown = ap (λ es. depth_of_all (trees_of es)) c.in_ok-push.ensures.items ∙ depth-push c.args.self.exprs.items c.into_inner.result in
    let same = ap (λ e. depth (tree_of e)) c.into_inner.ensures in
    record { exact = omega (arith, grown, same, c.max-deep.ensures, c.args.self.exact, c.args.last.exact) }

pub returns : goal.returns
returns c =
    let grown = ap trees_of c.in_ok-push.ensures.items ∙ trees_of-push c.args.self.exprs.items c.into_inner.result in
    cc (grown, c.into_inner.ensures)
