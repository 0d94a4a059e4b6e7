use Rattle.std.proofs.Common.{◌≡◌, ◌+◌, ◌++◌, take}
use Rattle.flow_scalar.specs.IotaMachine.{numbers_from}
use Rattle.flow_scalar.proofs.iota.fill_numbers.Given as goal

abbrev pub invariant-loop-place : goal.invariant-loop-place
invariant-loop-place l = take (l.from + l.place) l.places ≡ take l.from l.fn.places ++ numbers_from l.next l.place
