use Rattle.std.proofs.Common.{◌++◌, length, length-append, ap, arith}
use Rattle.flow_boxes.specs.Contents.{contents, view_of}
use Rattle.flow_shares.specs.meetings.Met.{met_whole}
use Rattle.flow_shares.proofs.meetings.theorems.boxes_are_level.Goals as goal

pub returns-clause-arrived : goal.returns-clause-arrived
returns-clause-arrived c a b e linked met =
    let w = contents a in
    let r = contents b in
    let came = r.ends.received e ++ r.ends.coming e in
    met_whole (view_of a) (view_of b) w.capacity e met
    (omega (arith, ap length linked.in_order, length-append came (w.leaving e), length-append (r.ends.received e) (r.ends.coming e)))
