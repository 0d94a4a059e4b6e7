use Rattle.std.proofs.Common.{length}
use Rattle.flow_dealing.specs.cut.Loads.{IsDealing}
use Rattle.flow_dealing.proofs.cut.search.pass_links.Given as goal

abbrev pub invariant-loop-writer : goal.invariant-loop-writer
invariant-loop-writer l = IsDealing (length l.work) (length l.loads) l.share

abbrev pub invariant-loop-to : goal.invariant-loop-to
invariant-loop-to l = IsDealing (length l.work) (length l.loads) l.share
