use Rattle.std.proofs.Common.{refl}
use Rattle.flow_edges.specs.lanes.Rings.{writes_of}
use Rattle.flow_edges.proofs.OfLanes.RingLines.{at_line-there, items_fit, items_put}
use Rattle.flow_edges.proofs.OfLanes.InPlace.{same_writers}
use Rattle.flow_edges.proofs.lanes.rings_ends.RingsEnds.put_all.Goals as goal

pub put_all-requires : goal.put_all-requires
put_all-requires c =
    let s = c.args.self.now in
    let fits = items_fit s.writers.items s.readers.items c.args.edge _ c.in-Some.writer c.requires.writes c.index_mut.ensures.value c.in-Some.is c.args.items c.requires.kind c.requires.certain in
    record { takes = fits.0; certain = fits.1 }

pub returns-clause-put : goal.returns-clause-put
returns-clause-put c =
    let s = c.args.self.now in
    items_put s.writers.items s.readers.items c.args.edge _ c.in-Some.writer c.requires.writes c.index_mut.ensures.value c.in-Some.is c.put_all.new.self c.args.items c.put_all.ensures

pub returns-clause-same : goal.returns-clause-same
returns-clause-same c =
    let ws = c.args.self.now.writers.items in
    same_writers _ _ c.args.edge _ _ c.in-Some.writer c.put_all.new.self c.index_mut.ensures.value c.in-Some.is
    (at_line-there writes_of ws c.args.edge c.requires.writes) c.put_all.ensures.same refl refl
