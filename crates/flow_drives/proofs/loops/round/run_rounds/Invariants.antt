use Rattle.std.specs.Prelude.{◌-◌, length}
use Rattle.flow_shares.specs.Starts.{AskedAtEach}
use Rattle.flow_drives.specs.loops.Standing.{StandBetweenRounds, boxes_of, moved_in}
use Rattle.flow_drives.specs.loops.Rounds.{RoundsWent}
use Rattle.flow_drives.proofs.OfLoops.Rounds.{most_moved}
use Rattle.flow_drives.proofs.loops.round.run_rounds.Given as goal

abbrev pub ghost-round : goal.ghost-round
ghost-round g a = g.network

-- the shares stand where a run led, all of them, and each round so far moved a message
abbrev pub invariant-rounds : goal.invariant-rounds
invariant-rounds g l = record {
  asked : g.S.Start.refused l.start → g.S.Start.refused l.fn.start;
  asked_each : AskedAtEach l.count (length l.fn.shares.items) (g.S.Start.asked l.fn.start) (g.S.Start.asked l.start);
  stand : StandBetweenRounds g.network l.shares.items;
  went : RoundsWent g.network l.fn.shares.items l.shares.items l.count;
}

-- how many messages are still to be sent and received
abbrev pub decreases-rounds : goal.decreases-rounds
decreases-rounds g l = most_moved (g.met.T.Transducer g.world.𝓛 g.world.𝓜 g.world.𝓡 ((λ s x. x), (λ x. x), (λ x. x), λ x. x)).laws g.network - moved_in g.network (boxes_of l.shares.items)
