use Rattle.flow_messages.proofs.Counts.{count-said}
use Rattle.flow_edges.specs.lanes.Lane.{received}
use Rattle.flow_edges.specs.lanes.Rings.{reads_of}
use Rattle.flow_edges.proofs.OfLanes.RingLines.{at_line-there, had_received}
use Rattle.flow_edges.proofs.lanes.rings_ends.RingsCountedEnds.received_count.Goals as goal

pub returns : goal.returns
returns c =
    let s = c.args.self.now in
    let rs = s.readers.items in
    let r = c.in-Some.reader in
    count-said (received r) (had_received s.writers.items rs c.args.edge _ r r (at_line-there reads_of rs c.args.edge c.requires) c.index.ensures c.in-Some.is) c.received_count.ensures
