use Rattle.std.proofs.Common.{arith, ap, ◌∙◌}
use Rattle.snesl_grammar.specs.tree.View.{tree_of, binders_of}
use Rattle.snesl_grammar.specs.tree.Tree.{depth, depth_of_binders}
use Rattle.snesl_syntax.proofs.OfExpressions.Rows.{binders_of-push, depth_of_binders-push}
use Rattle.snesl_syntax.proofs.expressions.measured.Bound.with.Goals as goal

pub invariant_of-result : goal.invariant_of-result
invariant_of-result c =
    let grown = ap (λ bs. depth_of_binders (binders_of bs)) c.in_ok-push.ensures.items
    ∙ depth_of_binders-push c.args.self.binders.items (record { name = c.args.name; source = c.into_inner-source.result }) in
    let same = ap (λ e. depth (tree_of e)) c.into_inner-source.ensures in
    record { exact = omega (arith, grown, same, c.max-deep.ensures, c.args.self.exact, c.args.source.exact) }

pub returns : goal.returns
returns c =
    let grown = ap binders_of c.in_ok-push.ensures.items ∙ binders_of-push c.args.self.binders.items (record { name = c.args.name; source = c.into_inner-source.result }) in
    cc (grown, c.into_inner-source.ensures)
