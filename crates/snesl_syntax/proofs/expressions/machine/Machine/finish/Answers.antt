use Rattle.std.proofs.Common.{arith, ap, sym, ◌∙◌, vec_len, length}
use Rattle.snesl_grammar.specs.tree.View.{tree_of}
use Rattle.snesl_syntax.specs.expressions.Machine.{finished_of, alone}
use Rattle.snesl_syntax.specs.expressions.Parsing.{state_at, frames_of}
use Rattle.snesl_syntax.proofs.OfExpressions.Closes.{still_open, some_left}
use Rattle.snesl_syntax.proofs.expressions.machine.Machine.finish.Goals as goal

pub returns-in-After : goal.returns-in-After
returns-in-After c =
    ap (λ p. finished_of (state_at (frames_of c.args.self.forms.items) p)) c.in-After.is
    ∙ ap alone c.in_ok-outer-in-After.ensures
    ∙ still_open c.in_ok-outer-in-After.outer.items (tree_of c.in_ok-outer-in-After.whole.expr.value)
    (some_left (vec_len c.in_ok-outer-in-After.outer) (length c.in_ok-outer-in-After.outer.items) (sym c.if-is_empty.ensures) (omega (arith, c.in_ok-outer-in-After.outer.ok.0)))
