use Rattle.flow_messages.proofs.Counts.{count-said}
use Rattle.flow_edges.specs.lanes.Lane.{sent}
use Rattle.flow_edges.specs.lanes.SameLanes.{same_writer_refl}
use Rattle.flow_edges.specs.lanes.Rings.{writes_of}
use Rattle.flow_edges.proofs.OfLanes.RingLines.{at_line-there, had_sent}
use Rattle.flow_edges.proofs.lanes.rings_ends.RingsCountedEnds.sent_count.Goals as goal

pub returns : goal.returns
returns c =
    let s = c.args.self.now in
    let ws = s.writers.items in
    let w = c.in-Some.writer in
    count-said (sent w) (had_sent ws s.readers.items c.args.edge _ w w (at_line-there writes_of ws c.args.edge c.requires) c.index.ensures c.in-Some.is (same_writer_refl w)) c.sent_count.ensures
