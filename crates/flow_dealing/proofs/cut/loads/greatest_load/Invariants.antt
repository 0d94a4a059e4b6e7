use Rattle.std.proofs.Common.{◌≡◌}
use Rattle.std.specs.Io.Iter.{u64_saturate}
use Rattle.flow_dealing.specs.cut.Loads.{greatest_load}
use Rattle.flow_dealing.proofs.cut.loads.greatest_load.Given as goal

abbrev pub invariant-loop-s : goal.invariant-loop-s
invariant-loop-s l = l.greatest ≡ u64_saturate (greatest_load l.work l.links l.share l.s)
