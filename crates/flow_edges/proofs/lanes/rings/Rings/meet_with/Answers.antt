use Rattle.std.proofs.Common.{refl}
use Rattle.flow_edges.proofs.OfLanes.RingLines.{writer-looked, reader-looked}
use Rattle.flow_edges.proofs.OfLanes.Meetings.{kept-room, kept-messages, joins-writer, joins-reader, met_here}
use Rattle.flow_edges.proofs.OfLanes.InPlace.{same_writers, same_readers, joined_in_place}
use Rattle.flow_edges.proofs.lanes.rings.Rings.meet_with.Goals as goal

pub returns-clause-writer_kept : goal.returns-clause-writer_kept
returns-clause-writer_kept c =
    let ws = c.args.self.now.writers.items in
    let m = c.meet_lane.ensures in
    kept-room _ _ c.args.edge
    (writer-looked ws c.args.self.now.readers.items c.args.edge _ c.in-Some-Some.writer c.meet_lane.new.writer
    (joins-writer ws c.args.edge _ c.requires) c.index_mut.ensures.value c.in-Some-Some.is-0 m.writer.0 m.writer.1 m.looked.0)

pub returns-clause-reader_kept : goal.returns-clause-reader_kept
returns-clause-reader_kept c =
    let rs = c.args.other.now.readers.items in
    let m = c.meet_lane.ensures in
    kept-messages _ _ c.args.edge
    (reader-looked c.args.other.now.writers.items rs c.args.edge _ c.in-Some-Some.reader c.meet_lane.new.reader
    (joins-reader _ rs c.args.edge c.requires) c.index_mut-2.ensures.value c.in-Some-Some.is-1 m.reader.1 m.looked.1)

pub returns-clause-met : goal.returns-clause-met
returns-clause-met c =
    let ws = c.args.self.now.writers.items in
    let rs = c.args.other.now.readers.items in
    let m = c.meet_lane.ensures in
    met_here ws rs _ _ c.args.edge c.meet_lane.new.writer c.meet_lane.new.reader c.meet_lane.result (joins-writer ws c.args.edge _ c.requires)
    (joins-reader _ rs c.args.edge c.requires) refl refl m.fifo m.count m.room m.whole m.out

pub returns-clause-writer : goal.returns-clause-writer
returns-clause-writer c =
    let ws = c.args.self.now.writers.items in
    let e = c.args.edge in
    same_writers _ _ e _ _ c.in-Some-Some.writer c.meet_lane.new.writer c.index_mut.ensures.value c.in-Some-Some.is-0 (joins-writer ws e _ c.requires) c.meet_lane.ensures.writer.0 refl refl

pub returns-clause-reader : goal.returns-clause-reader
returns-clause-reader c =
    let rs = c.args.other.now.readers.items in
    let e = c.args.edge in
    same_readers _ _ e _ _ c.in-Some-Some.reader c.meet_lane.new.reader c.index_mut-2.ensures.value c.in-Some-Some.is-1 (joins-reader _ rs e c.requires) c.meet_lane.ensures.reader.0 refl refl

pub returns-clause-joined : goal.returns-clause-joined
returns-clause-joined c =
    let ws = c.args.self.now.writers.items in
    let rs = c.args.other.now.readers.items in
    let e = c.args.edge in
    joined_in_place ws rs e c.meet_lane.new.writer c.meet_lane.new.reader (joins-writer ws e _ c.requires) (joins-reader _ rs e c.requires) c.meet_lane.ensures.pair
