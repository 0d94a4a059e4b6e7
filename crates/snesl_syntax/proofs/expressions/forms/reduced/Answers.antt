use Rattle.std.proofs.Common.{sym, ◌∙◌}
use Rattle.snesl_grammar.specs.tree.View.{tree_of}
use Rattle.snesl_syntax.proofs.OfExpressions.Piles.{closes_last, keeps_last}
use Rattle.snesl_syntax.proofs.expressions.forms.reduced.Goals as goal

pub loop-form-preserved : goal.loop-form-preserved
loop-form-preserved c =
    let e = closes_last c.args.tightness c.pop.new.self.items c.in-Some.form (tree_of c.loop-form.last.expr.value) (sym c.is_closed_at.ensures ∙ c.if-not-is_closed_at.false) in
    cc (e, c.in_ok-last.ensures, c.in-Some.ensures.items, c.in-Some.is, c.loop-form.invariant)

pub returns-then-not-is_closed_at : goal.returns-then-not-is_closed_at
returns-then-not-is_closed_at c =
    let e = keeps_last c.args.tightness c.pop.new.self.items c.in-Some.form (tree_of c.loop-form.last.expr.value) (sym c.is_closed_at.ensures ∙ c.if-not-is_closed_at.true) in
    cc (e, c.in_ok-push.ensures.items, c.in-Some.ensures.items, c.in-Some.is, c.loop-form.invariant)
