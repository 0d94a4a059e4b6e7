use Rattle.std.proofs.Common.{◌≡◌, take}
use Rattle.std.specs.Io.Iter.{u64_saturate}
use Rattle.std.specs.List.{sum_by}
use Rattle.flow_dealing.specs.cut.Loads.{cost_to}
use Rattle.flow_dealing.proofs.cut.loads.all_costs.Given as goal

abbrev pub invariant-loop-link : goal.invariant-loop-link
invariant-loop-link l = l.sum ≡ u64_saturate (sum_by (cost_to l.share l.fn.s) (take l.link-index l.links))
