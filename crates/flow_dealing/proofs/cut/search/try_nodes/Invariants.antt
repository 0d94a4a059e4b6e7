use Rattle.std.proofs.Common.{length}
use Rattle.flow_dealing.specs.cut.Loads.{IsDealing}
use Rattle.flow_dealing.proofs.cut.search.try_nodes.Given as goal

abbrev pub invariant-loop-node : goal.invariant-loop-node
invariant-loop-node l = IsDealing (length l.work) (length l.loads) l.share

abbrev pub invariant-loop-node-2 : goal.invariant-loop-node-2
invariant-loop-node-2 l = IsDealing (length l.work) (length l.loads) l.share
