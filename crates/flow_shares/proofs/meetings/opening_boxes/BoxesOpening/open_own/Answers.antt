use Rattle.flow_messages.proofs.Tables.{on_ok}
use Rattle.flow_boxes.specs.Contents.{contents}
use Rattle.flow_shares.proofs.OfMeetings.Opened.{others_then, box_both}
use Rattle.flow_shares.proofs.meetings.opening_boxes.BoxesOpening.open_own.Goals as goal

pub returns-clause-both : goal.returns-clause-both
returns-clause-both c =
    let e = c.args.edge in
    let w = c.in_ok-open_writer.ensures.ok in
    let a = contents c.args.self.now in
    let m = contents c.open_writer.new.self in
    let b = contents c.open_reader.new.self in
    on_ok c.open_reader.result (λ r. (others_then e a m b w.others r.others, box_both e c.args.arg4 c.args.arg5 a m b c.requires.place.of_kind c.requires.place.most w r)) c.open_reader.ensures.ok
