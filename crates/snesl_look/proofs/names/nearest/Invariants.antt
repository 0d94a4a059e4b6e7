use Rattle.snesl_look.specs.Names.{IsOther, distance_at}
use Rattle.snesl_look.proofs.Nearest.{NearestSoFar}
use Rattle.snesl_look.proofs.names.nearest.Given as goal

-- the first of the nearest so far is found
abbrev pub invariant-loop-place : goal.invariant-loop-place
invariant-loop-place l = NearestSoFar (IsOther l.text l.fn.at) (distance_at l.text l.word) l.limit l.place l.found l.least
