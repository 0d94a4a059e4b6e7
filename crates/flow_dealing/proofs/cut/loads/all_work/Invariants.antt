use Rattle.std.proofs.Common.{◌≡◌}
use Rattle.std.specs.Io.Iter.{u64_saturate}
use Rattle.flow_dealing.specs.cut.Loads.{work_of}
use Rattle.flow_dealing.proofs.cut.loads.all_work.Given as goal

abbrev pub invariant-loop-node : goal.invariant-loop-node
invariant-loop-node l = l.sum ≡ u64_saturate (work_of l.work l.share l.fn.s l.node)
