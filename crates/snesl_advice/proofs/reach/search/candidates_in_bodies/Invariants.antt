use Rattle.std.proofs.Common.{◌≡◌}
use Rattle.snesl_advice.proofs.OfReach.Found.{bodies_from}
use Rattle.snesl_advice.proofs.reach.search.candidates_in_bodies.Given as goal

-- it is in no earlier function
abbrev pub invariant-loop-number : goal.invariant-loop-number
invariant-loop-number l = bodies_from l.fn.at l.declarations 0 ≡ bodies_from l.fn.at l.declarations l.number
