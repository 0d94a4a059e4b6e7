use Rattle.std.proofs.Common.{arith}
use Rattle.std.proofs.lemmas.List.{length-take}
use Rattle.rtrb.specs.Ring as port
use Rattle.flow_words.proofs.Putting.{spelled_follows, spelled_whole, put_spelled}
use Rattle.flow_words.proofs.sending.push_spelled.Goals as goal

pub push_all-requires : goal.push_all-requires
push_all-requires c = spelled_follows (port.sent c.args.ring.now) _ c.args.message.now c.requires.whole c.requires.open c.spell-count.ensures.spells

pub returns-clause-whole : goal.returns-clause-whole
returns-clause-whole c = spelled_whole c.push_all.result (port.sent c.args.ring.now) _ (port.sent c.push_all.new.ring) c.args.message.now c.push_all.ensures.done
    (λ f. (c.push_all.ensures.full f).0) c.requires.whole c.spell-count.ensures.spells

pub returns-clause-done : goal.returns-clause-done
returns-clause-done c = λ t.
    (put_spelled (port.sent c.args.ring.now) _ (port.sent c.push_all.new.ring) c.args.message.now (c.push_all.ensures.done t) c.requires.whole c.spell-count.ensures.spells).0

pub returns-clause-room : goal.returns-clause-room
returns-clause-room c =
    let room = c.push_all.ensures.room in
    (room.0, omega (arith, room.1, length-take c.spell-count.result.1 c.spell-count.result.0, c.spell-count.ensures.few))

pub returns-clause-full : goal.returns-clause-full
returns-clause-full c = λ f.
    let full = c.push_all.ensures.full f in
    (full.0, full.1, omega (arith, full.2, length-take c.spell-count.result.1 c.spell-count.result.0, c.spell-count.ensures.few))

pub returns-clause-succeeds : goal.returns-clause-succeeds
returns-clause-succeeds c = λ h. c.push_all.ensures.succeeds (omega (arith, h, length-take c.spell-count.result.1 c.spell-count.result.0, c.spell-count.ensures.few))
