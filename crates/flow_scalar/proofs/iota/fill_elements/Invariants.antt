use Rattle.std.proofs.Common.{◌≡◌, ◌+◌, ◌++◌, false, take}
use Rattle.std.specs.Prelude.{replicate}
use Rattle.flow_scalar.proofs.iota.fill_elements.Given as goal

abbrev pub invariant-loop-place : goal.invariant-loop-place
invariant-loop-place l = take (l.from + l.place) l.places ≡ take l.from l.fn.places ++ replicate l.place false
