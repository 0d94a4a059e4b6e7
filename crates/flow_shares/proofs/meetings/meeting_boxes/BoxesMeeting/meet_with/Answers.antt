use Rattle.flow_boxes.specs.Contents.{contents}
use Rattle.flow_shares.proofs.OfMeetings.Carrying.{writer-kept, reader-kept}
use Rattle.flow_shares.proofs.meetings.meeting_boxes.BoxesMeeting.meet_with.Goals as goal

pub returns-clause-writer : goal.returns-clause-writer
returns-clause-writer c =
    let e = c.carry.ensures in
    record {
      carries = e.writer.carries;
      kept = writer-kept (contents c.args.self.now) (contents c.args.other.now) (contents c.carry.new.writer) (contents c.carry.new.reader) c.args.edge c.requires e.carried e.writer e.reader;
    }

pub returns-clause-reader : goal.returns-clause-reader
returns-clause-reader c =
    let e = c.carry.ensures in
    record {
      carries = e.reader.carries;
      kept = reader-kept (contents c.args.self.now) (contents c.args.other.now) (contents c.carry.new.writer) (contents c.carry.new.reader) c.args.edge c.requires e.carried e.writer e.reader;
    }
