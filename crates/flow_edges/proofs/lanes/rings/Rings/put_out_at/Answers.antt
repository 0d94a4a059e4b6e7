use Rattle.flow_edges.proofs.OfLanes.RingLines.{writer-kept}
use Rattle.flow_edges.proofs.lanes.rings.Rings.put_out_at.Goals as goal

pub returns-in-Some-clause-view : goal.returns-in-Some-clause-view
returns-in-Some-clause-view c =
    let s = c.args.self.now in
    let kept = c.put_out.ensures.kept in
    writer-kept s.writers.items s.readers.items c.args.edge _ c.in-Some.writer c.put_out.new.self c.requires c.index_mut.ensures.value c.in-Some.is c.put_out.ensures.same kept.0 kept.1
