use Rattle.std.proofs.Common.{◌<◌, length, map}
use Rattle.snesl_look.specs.Names.{distance_among}
use Rattle.snesl_look.proofs.Nearest.{NearestSoFar}
use Rattle.snesl_look.proofs.among.nearest_of.Given as goal

-- the first of the nearest so far is found
abbrev pub invariant-loop-place : goal.invariant-loop-place
invariant-loop-place l =
    NearestSoFar (λ k. k < length l.names) (distance_among (map (λ name. name.items) l.names) l.word) l.limit l.place l.found l.least
