use Rattle.flow_messages.proofs.Tables.{on_ok}
use Rattle.flow_boxes.specs.Contents.{contents}
use Rattle.flow_shares.proofs.OfMeetings.Opened.{box_writer}
use Rattle.flow_shares.proofs.meetings.opening_boxes.BoxesOpening.open_with.Goals as goal

pub returns-clause-writer : goal.returns-clause-writer
returns-clause-writer c =
    let w = c.in_ok-open_writer.ensures.ok in
    on_ok c.open_reader.result
    (λ r. (
      w.others,
      box_writer c.args.edge c.args.arg5 c.args.arg6 (contents c.args.self.now) (contents c.open_writer.new.self)
          c.requires.writer_place.of_kind c.requires.writer_place.most w,
    )) c.open_reader.ensures.ok
