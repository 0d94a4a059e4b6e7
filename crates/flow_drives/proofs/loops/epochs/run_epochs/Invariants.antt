use Rattle.std.specs.Prelude.{◌-◌, length}
use Rattle.flow_shares.specs.Starts.{AskedAtEach}
use Rattle.flow_drives.specs.loops.Epochs.{moved_in}
use Rattle.flow_drives.specs.loops.Few.{EpochsWent}
use Rattle.flow_drives.proofs.OfLoops.Whole.{most_moved}
use Rattle.flow_drives.proofs.loops.epochs.run_epochs.Given as goal

abbrev pub ghost-meet : goal.ghost-meet
ghost-meet g a = g.network

abbrev pub ghost-epoch : goal.ghost-epoch
ghost-epoch g a = g.network

-- the shares are those that were given, later, their ends have met, and each epoch so far moved a message
abbrev pub invariant-epochs : goal.invariant-epochs
invariant-epochs g l = record {
  asked : g.S.Start.refused l.start → g.S.Start.refused l.fn.start;
  asked_each : AskedAtEach l.count (length l.fn.shares.items) (g.S.Start.asked l.fn.start) (g.S.Start.asked l.start);
  went : EpochsWent g.network l.fn.shares.items l.shares.items l.count;
}

-- how many messages are still to be sent and received
abbrev pub decreases-epochs : goal.decreases-epochs
decreases-epochs g l = most_moved (g.met.T.Transducer g.world.𝓛 g.world.𝓜 g.world.𝓡 ((λ s x. x), (λ x. x), (λ x. x), λ x. x)).laws g.network - moved_in g.network l.shares.items
