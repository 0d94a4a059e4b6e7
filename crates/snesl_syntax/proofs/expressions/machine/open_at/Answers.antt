use Rattle.std.proofs.Common.{arith, suc, length, refl}
use Rattle.snesl_grammar.specs.Limits.{greatest_depth}
use Rattle.snesl_syntax.specs.expressions.Parsing.{frames_of, state_at}
use Rattle.snesl_syntax.proofs.OfExpressions.Piles.{at_least, has_room, has_no_room}
use Rattle.snesl_syntax.proofs.expressions.machine.open_at.Goals as goal

pub returns-then-not-has_room : goal.returns-then-not-has_room
returns-then-not-has_room c =
    let full = at_least (suc (length c.deref.result.now)) greatest_depth c.if-not-has_room.ensures.1 in
    has_no_room c.args.forms.items (state_at (frames_of c.args.forms.items) c.args.point) (omega (arith, full, c.deref.ensures.value))

pub returns : goal.returns
returns c =
    has_room c.args.forms.items (state_at (frames_of c.args.forms.items) c.args.point) (omega (arith, c.if-not-has_room.ensures.0 refl, c.deref.ensures.value))
