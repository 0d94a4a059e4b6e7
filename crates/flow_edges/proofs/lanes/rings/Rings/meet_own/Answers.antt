use Rattle.std.proofs.Common.{refl, set}
use Rattle.std.specs.Prelude.{Some}
use Rattle.flow_edges.specs.lanes.Rings.{view_of_rings}
use Rattle.flow_edges.proofs.OfLanes.RingLines.{writer-looked, reader-looked}
use Rattle.flow_edges.proofs.OfLanes.Meetings.{kept-room, kept-messages, kept-trans, joins-writer, joins-reader, met_here}
use Rattle.flow_edges.proofs.OfLanes.InPlace.{same_both, joined_in_place}
use Rattle.flow_edges.proofs.lanes.rings.Rings.meet_own.Goals as goal

pub returns-clause-kept : goal.returns-clause-kept
returns-clause-kept c =
    let ws = c.args.self.now.writers.items in
    let rs = c.args.self.now.readers.items in
    let e = c.args.edge in
    let m = c.meet_lane.ensures in
    let ws' = set ws e (Some c.meet_lane.new.writer) in
    kept-trans (view_of_rings ws rs) (view_of_rings ws' rs) _
    (kept-room _ _ e (writer-looked ws rs e _ c.in-Some-Some.writer c.meet_lane.new.writer (joins-writer ws e _ c.requires) c.index_mut.ensures.value
    c.in-Some-Some.is-0 m.writer.0 m.writer.1 m.looked.0))
    (kept-messages _ _ e (reader-looked ws' rs e _ c.in-Some-Some.reader c.meet_lane.new.reader (joins-reader _ rs e c.requires) c.index_mut-2.ensures.value c.in-Some-Some.is-1 m.reader.1 m.looked.1))

pub returns-clause-met : goal.returns-clause-met
returns-clause-met c =
    let ws = c.args.self.now.writers.items in
    let rs = c.args.self.now.readers.items in
    let m = c.meet_lane.ensures in
    met_here ws rs _ _ c.args.edge c.meet_lane.new.writer c.meet_lane.new.reader c.meet_lane.result (joins-writer ws c.args.edge _ c.requires)
    (joins-reader _ rs c.args.edge c.requires) refl refl m.fifo m.count m.room m.whole m.out

pub returns-clause-same : goal.returns-clause-same
returns-clause-same c =
    let ws = c.args.self.now.writers.items in
    let rs = c.args.self.now.readers.items in
    let e = c.args.edge in
    same_both _ _ e _ _ c.in-Some-Some.writer c.meet_lane.new.writer c.index_mut.ensures.value c.in-Some-Some.is-0 (joins-writer ws e _ c.requires) c.meet_lane.ensures.writer.0 refl
    _ _ c.in-Some-Some.reader c.meet_lane.new.reader c.index_mut-2.ensures.value c.in-Some-Some.is-1 (joins-reader _ rs e c.requires) c.meet_lane.ensures.reader.0 refl

pub returns-clause-joined : goal.returns-clause-joined
returns-clause-joined c =
    let ws = c.args.self.now.writers.items in
    let rs = c.args.self.now.readers.items in
    let e = c.args.edge in
    joined_in_place ws rs e c.meet_lane.new.writer c.meet_lane.new.reader (joins-writer ws e _ c.requires) (joins-reader _ rs e c.requires) c.meet_lane.ensures.pair
