use Rattle.flow_edges.proofs.OfLanes.Meetings.{joins-kept}
use Rattle.flow_part_tests.proofs.crossings.find_between.Goals as goal
use Rattle.flow_part_tests.proofs.crossings.find_between.Goals.{then-crosses, else-crosses}

pub crosses-requires-2-clause-joined : goal.crosses-requires-2-clause-joined
crosses-requires-2-clause-joined c =
    let first = c.crosses in
    let once = joins-kept c.in_ok-left.right first.new.to c.in_ok-left.left first.new.from 1 c.in_ok-left.ensures.back first.ensures.to first.ensures.from in
    elim c.if-crosses.branch [
      | then-crosses w ↦ rw w.right-is
          (rw w.left-is (joins-kept first.new.to w.crosses-there.new.to first.new.from w.crosses-there.new.from 1 once w.crosses-there.ensures.to
          w.crosses-there.ensures.from))
      | else-crosses w ↦ rw w.right-is (rw w.left-is once)
    ]
