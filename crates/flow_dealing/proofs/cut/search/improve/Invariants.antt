use Rattle.std.proofs.Common.{length}
use Rattle.flow_dealing.specs.cut.Loads.{IsDealing}
use Rattle.flow_dealing.proofs.cut.search.improve.Given as goal

abbrev pub invariant-loop : goal.invariant-loop
invariant-loop l = IsDealing (length l.work) (length l.loads) l.share
