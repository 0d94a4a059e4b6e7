use Rattle.flow_edges.specs.lanes.Rings.{writes_of}
use Rattle.flow_edges.proofs.OfLanes.RingLines.{at_line-there, writer-room, writer-looked}
use Rattle.std.proofs.Common.{refl}
use Rattle.flow_edges.proofs.OfLanes.InPlace.{same_writers}
use Rattle.flow_edges.proofs.lanes.rings_ends.RingsEnds.room.Goals as goal

pub returns-clause-looked : goal.returns-clause-looked
returns-clause-looked c =
    let ws = c.args.self.now.writers.items in
    let looked = c.room.ensures.looked in
    writer-looked ws c.args.self.now.readers.items c.args.edge _ c.in-Some.writer _ (at_line-there writes_of ws c.args.edge c.requires)
    c.index_mut.ensures.value c.in-Some.is c.room.ensures.same looked.0 looked.1

pub returns-clause-value : goal.returns-clause-value
returns-clause-value c =
    let ws = c.args.self.now.writers.items in
    rw (writer-room ws c.args.self.now.readers.items c.args.edge _ c.in-Some.writer c.room.new.self
    (at_line-there writes_of ws c.args.edge c.requires) c.index_mut.ensures.value c.in-Some.is c.room.ensures.same) c.room.ensures.value

pub returns-clause-same : goal.returns-clause-same
returns-clause-same c =
    let ws = c.args.self.now.writers.items in
    same_writers _ _ c.args.edge _ _ c.in-Some.writer c.room.new.self c.index_mut.ensures.value c.in-Some.is (at_line-there writes_of ws c.args.edge c.requires) c.room.ensures.same refl refl
