use Rattle.std.proofs.Common.{ap, sym, ◌∙◌}
use Rattle.std.specs.Option.{is_some}
use Rattle.snesl_grammar.specs.tree.View.{tree_of}
use Rattle.snesl_syntax.specs.expressions.Machine.{reduce, alone, finished_of}
use Rattle.snesl_syntax.specs.expressions.Parsing.{frames_of, state_at}
use Rattle.snesl_syntax.proofs.OfExpressions.Closes.{all_closed}
use Rattle.snesl_syntax.proofs.expressions.machine.Machine.is_whole.Goals as goal

pub returns-in-After : goal.returns-in-After
returns-in-After c =
    all_closed c.all_close.result c.deref.result.now (tree_of c.in-After.field-0.expr.value) c.all_close.ensures
    ∙ ap (λ fs. is_some (alone (reduce 0 (frames_of fs) (tree_of c.in-After.field-0.expr.value)))) c.deref.ensures.value
    ∙ ap (λ p. is_some (finished_of (state_at (frames_of c.args.self.now.forms.items) p))) (sym c.in-After.is)
