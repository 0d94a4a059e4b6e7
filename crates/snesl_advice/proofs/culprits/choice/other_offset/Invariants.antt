use Rattle.std.proofs.Common.{◌≡◌}
use Rattle.snesl_advice.proofs.OfCulprits.Others.{rest}
use Rattle.snesl_advice.proofs.culprits.choice.other_offset.Given as goal

-- no earlier part is of another type
abbrev pub invariant-loop-place : goal.invariant-loop-place
invariant-loop-place l = rest l.wanted l.found l.parts 0 ≡ rest l.wanted l.found l.parts l.place
