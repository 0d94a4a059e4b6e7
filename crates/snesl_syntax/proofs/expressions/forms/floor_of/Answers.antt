use Rattle.std.proofs.Common.{sym, ◌∙◌}
use Rattle.snesl_syntax.proofs.OfExpressions.Piles.{floor_by_last}
use Rattle.snesl_syntax.proofs.expressions.forms.floor_of.Goals as goal

pub returns-in-Some : goal.returns-in-Some
returns-in-Some c = c.floor_in.ensures ∙ sym (floor_by_last c.args.forms.now c.in-Some.form.now c.in-Some.ensures.value)
