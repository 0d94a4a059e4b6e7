use Rattle.std.proofs.Common.{◌≡◌}
use Rattle.snesl_advice.specs.Brackets.{open_before}
use Rattle.snesl_advice.proofs.brackets.open_bracket.Given as goal

-- the brackets that are open before this place
abbrev pub invariant-loop-place : goal.invariant-loop-place
invariant-loop-place l = l.places.items ≡ open_before l.program l.place
