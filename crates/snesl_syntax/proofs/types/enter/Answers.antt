use Rattle.std.proofs.Common.{arith, suc, length, refl, subst, sym}
use Rattle.snesl_grammar.specs.Limits.{greatest_depth}
use Rattle.snesl_syntax.specs.TypeMachine.{frame_of, type_state, IsStep}
use Rattle.snesl_syntax.proofs.OfExpressions.Piles.{at_least}
use Rattle.snesl_syntax.proofs.Piles.{has_room, has_no_room}
use Rattle.snesl_syntax.proofs.types.enter.Goals as goal

pub returns-then-not-has_room : goal.returns-then-not-has_room
returns-then-not-has_room c =
    let full = at_least (suc (length c.deref.result.now)) greatest_depth c.if-not-has_room.ensures.1 in
    has_no_room c.args.forms.items (frame_of c.args.form) (omega (arith, full))

pub returns : goal.returns
returns c =
    let roomy = has_room c.args.forms.items (frame_of c.args.form) (omega (arith, c.if-not-has_room.ensures.0 refl)) in
    subst (IsStep type_state c.go_in.result) (sym roomy) c.go_in.ensures
