use Rattle.flow_edges.proofs.OfLanes.RingLines.{reader-kept}
use Rattle.flow_edges.proofs.lanes.rings.Rings.tell_at.Goals as goal

pub returns-in-Some-clause-view : goal.returns-in-Some-clause-view
returns-in-Some-clause-view c =
    let s = c.args.self.now in
    let kept = c.tell.ensures in
    reader-kept s.writers.items s.readers.items c.args.edge _ c.in-Some.reader c.tell.new.self c.requires c.index_mut.ensures.value c.in-Some.is kept.taken kept.held
