use Rattle.flow_edges.proofs.lanes.meeting.meet_lane.Goals as goal
use Rattle.flow_edges.proofs.lanes.meeting.meet_lane.Goals.{in-Messages-Messages, in-Scalars-Scalars}

pub returns-clause-looked : goal.returns-clause-looked
returns-clause-looked c =
    elim c.match-writer.branch [
      | in-Messages-Messages w ↦ rw w.in-Messages-Messages.is-0 (rw w.in-Messages-Messages.is-1 (rw w.writer-is (rw w.reader-is w.meet.ensures.looked)))
      | in-Scalars-Scalars w ↦ rw w.in-Scalars-Scalars.is-0
          (rw w.in-Scalars-Scalars.is-1 (rw w.writer-is (rw w.reader-is (w.meet_pocket.ensures.room, w.meet_pocket.ensures.held))))
    ]
