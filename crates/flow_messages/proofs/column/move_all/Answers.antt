use Rattle.std.proofs.Common.{ap, length, arith}
use Rattle.flow_messages.proofs.Contents.{both_long}
use Rattle.flow_messages.proofs.column.move_all.Goals as goal

pub push_back_reserved-requires : goal.push_back_reserved-requires
push_back_reserved-requires c =
    let l = c.loop-message in
    let now = both_long l.queue.items l.more.items c.args.queue.now.items c.args.more.now.items l.invariant.moved in
    omega (arith, c.requires.room, now, ap length c.in-Some.ensures.items, l.invariant.capacity)
