use Rattle.std.proofs.Common.{length, ap, arith, length-append}
use Rattle.rtrb.specs.Ring as port
use Rattle.flow_words.proofs.making.see.Goals as goal

pub returns-clause-room : goal.returns-clause-room
returns-clause-room g c = λ none.
    let room = c.slots_beside-room.ensures in
    let count = c.slots_beside-count.ensures in
    let reader = c.slots_beside-count.new.self in
    omega (
      arith,
      none,
      room.value,
      room.all_free,
      count.producer.2,
      count.producer.0.1,
      ap length count.producer.1,
      ap length count.looked.1,
      ap length count.fifo,
      length-append (port.received reader) (port.known_items reader),
    )
