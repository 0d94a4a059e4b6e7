use Rattle.std.proofs.Common.{ap, length, arith}
use Rattle.flow_messages.specs.IntRuns.{integers_in}
use Rattle.flow_messages.proofs.Contents.{both_long}
use Rattle.flow_messages.proofs.int_run.IntRun.append.Goals as goal

pub put-requires : goal.put-requires
put-requires c =
    let l = c.loop-number in
    let now = both_long (integers_in l.self) l.other.wide.items (integers_in c.args.self.now) (integers_in c.args.other.now) l.invariant.moved in
    record { room = omega (arith, c.requires.room, now, ap length c.in-Some.ensures.items, l.invariant.most) }
