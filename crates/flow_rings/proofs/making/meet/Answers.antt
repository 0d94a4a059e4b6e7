use Rattle.std.proofs.Common.{length, ap, arith, length-append}
use Rattle.flow_rings.specs.Ring.{received, known_items}
use Rattle.flow_rings.proofs.making.meet.Goals as goal

pub returns-clause-fifo : goal.returns-clause-fifo
returns-clause-fifo c = c.slots_beside-count.ensures.fifo

pub returns-clause-count : goal.returns-clause-count
returns-clause-count c = c.slots_beside-count.ensures.value

pub returns-clause-room : goal.returns-clause-room
returns-clause-room c = omega (arith, c.slots_beside-room.ensures.value, c.slots_beside-count.ensures.writer)

pub returns-clause-whole : goal.returns-clause-whole
returns-clause-whole c =
    let room = c.slots_beside-room.ensures in
    let count = c.slots_beside-count.ensures in
    let reader = c.slots_beside-count.new.self in
    omega (
      arith,
      room.all_free,
      room.ring.1,
      count.value,
      count.writer.0.1,
      ap length count.writer.1.0,
      ap length count.looked.0,
      ap length count.fifo,
      length-append (received reader) (known_items reader),
    )
