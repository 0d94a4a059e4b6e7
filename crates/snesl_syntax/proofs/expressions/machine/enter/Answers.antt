use Rattle.std.proofs.Common.{arith, suc, length, refl, subst, sym, ◌∷◌}
use Rattle.snesl_grammar.specs.Limits.{greatest_depth}
use Rattle.snesl_syntax.specs.expressions.Machine.{operand}
use Rattle.snesl_syntax.specs.expressions.Parsing.{frame_of, frames_of, IsStep}
use Rattle.snesl_syntax.proofs.OfExpressions.Piles.{at_least, has_room, has_no_room}
use Rattle.snesl_syntax.proofs.expressions.machine.enter.Goals as goal

pub returns-then-not-has_room : goal.returns-then-not-has_room
returns-then-not-has_room c =
    let full = at_least (suc (length c.deref.result.now)) greatest_depth c.if-not-has_room.ensures.1 in
    has_no_room c.args.forms.items (operand (frame_of c.args.form ∷ frames_of c.args.forms.items)) (omega (arith, full, c.deref.ensures.value))

pub returns : goal.returns
returns c =
    let roomy = has_room c.args.forms.items (operand (frame_of c.args.form ∷ frames_of c.args.forms.items)) (omega (arith, c.if-not-has_room.ensures.0 refl, c.deref.ensures.value)) in
    subst (IsStep c.go_in.result) (sym roomy) c.go_in.ensures
