use Rattle.flow_boxes.specs.Contents.{contents}
use Rattle.flow_shares.proofs.OfMeetings.Carrying.{own-kept}
use Rattle.flow_shares.proofs.meetings.meeting_boxes.BoxesMeeting.meet_own.Goals as goal

pub returns-clause-meets : goal.returns-clause-meets
returns-clause-meets c =
    let e = c.carry_own.ensures in
    record {
      carries = e.others;
      kept = own-kept (contents c.args.self.now) (contents c.carry_own.new.boxes) c.args.edge c.requires e.carried e.others;
    }
