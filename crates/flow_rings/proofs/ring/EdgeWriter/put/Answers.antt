use Rattle.flow_messages.proofs.Counts.{count-next}
use Rattle.flow_rings.specs.Edge.{sent}
use Rattle.flow_rings.proofs.ring.EdgeWriter.put.Goals as goal

pub invariant_of-self-clause-counts : goal.invariant_of-self-clause-counts
invariant_of-self-clause-counts c =
    count-next (sent c.args.self.now) c.args.message c.args.self.now.counts c.in-Ok.ensures.ok.0 c.saturating_add-self.ensures
