use Rattle.flow_samples.specs.Joined.{AreJoined}
use Rattle.flow_part_tests.proofs.courses.first_wrong.Given as goal

abbrev pub invariant-loop-number : goal.invariant-loop-number
invariant-loop-number g l = AreJoined g.E.Meeting.joins l.owners l.ends
