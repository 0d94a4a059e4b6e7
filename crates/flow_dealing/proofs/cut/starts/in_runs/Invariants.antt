use Rattle.flow_dealing.specs.cut.Loads.{IsDealing}
use Rattle.flow_dealing.proofs.cut.starts.in_runs.Given as goal

abbrev pub invariant-loop-own-2 : goal.invariant-loop-own-2
invariant-loop-own-2 l = IsDealing l.own-index l.fn.threads l.share.items
