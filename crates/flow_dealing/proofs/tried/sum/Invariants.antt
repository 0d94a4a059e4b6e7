use Rattle.std.proofs.Common.{◌≡◌, take}
use Rattle.std.specs.Io.Iter.{u64_saturate}
use Rattle.std.specs.List.{sum}
use Rattle.flow_dealing.proofs.tried.sum.Given as goal

abbrev pub invariant-loop-number : goal.invariant-loop-number
invariant-loop-number l = l.sum ≡ u64_saturate (sum (take l.number-index l.numbers))
