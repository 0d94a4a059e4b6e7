use Rattle.flow_shares.proofs.OfMeetings.Looked.{AreStuckSoFar}
use Rattle.flow_shares.proofs.meetings.standing.are_stuck.Given as goal

-- the shares so far
abbrev pub invariant-loop-k : goal.invariant-loop-k
invariant-loop-k g l = AreStuckSoFar l.k l.initial.shares l.shares
