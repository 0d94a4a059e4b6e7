use Rattle.flow_edges.specs.lanes.Rings.{reads_of}
use Rattle.flow_edges.proofs.OfLanes.RingLines.{at_line-there, reader-held, reader-looked}
use Rattle.std.proofs.Common.{refl}
use Rattle.flow_edges.proofs.OfLanes.InPlace.{same_readers}
use Rattle.flow_edges.proofs.lanes.rings_ends.RingsEnds.ready.Goals as goal

pub returns-clause-looked : goal.returns-clause-looked
returns-clause-looked c =
    let rs = c.args.self.now.readers.items in
    let looked = c.ready.ensures.looked in
    reader-looked c.args.self.now.writers.items rs c.args.edge _ c.in-Some.reader _ (at_line-there reads_of rs c.args.edge c.requires) c.index_mut.ensures.value c.in-Some.is looked.0 looked.1

pub returns-clause-value : goal.returns-clause-value
returns-clause-value c =
    let rs = c.args.self.now.readers.items in
    rw (reader-held c.args.self.now.writers.items rs c.args.edge _ c.in-Some.reader c.ready.new.self
    (at_line-there reads_of rs c.args.edge c.requires) c.index_mut.ensures.value c.in-Some.is) c.ready.ensures.value

pub returns-clause-same : goal.returns-clause-same
returns-clause-same c =
    let rs = c.args.self.now.readers.items in
    same_readers _ _ c.args.edge _ _ c.in-Some.reader c.ready.new.self c.index_mut.ensures.value c.in-Some.is (at_line-there reads_of rs c.args.edge c.requires) c.ready.ensures.same refl refl
