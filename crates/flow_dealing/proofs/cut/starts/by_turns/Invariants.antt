use Rattle.std.proofs.Common.{◌≡◌}
use Rattle.flow_dealing.specs.cut.Loads.{IsDealing, by_turns}
use Rattle.flow_dealing.proofs.cut.starts.by_turns.Given as goal

abbrev pub invariant-loop-node : goal.invariant-loop-node
invariant-loop-node l = (l.share.items ≡ by_turns l.fn.threads l.node) × IsDealing l.node l.fn.threads l.share.items
