use Rattle.std.proofs.Common.{length, take, ap, arith}
use Rattle.std.proofs.lemmas.List.{length-map, length-take}
use Rattle.rtrb.specs.Ring as port
use Rattle.flow_words.specs.Words.{each_said}
use Rattle.flow_words.proofs.Coming.{come_length}
use Rattle.flow_words.proofs.InTurn.{singles_in_turn}
use Rattle.flow_words.proofs.receiving.take_singles.Goals as goal

pub hold-requires-clause-room : goal.hold-requires-clause-room
hold-requires-clause-room g c = omega (arith, c.pop_some-count.ensures.count, length-take c.pop_some-count.result c.pop_some-count.new.words, c.min-asked.ensures, c.len.ensures)

pub hold-requires-clause-turn : goal.hold-requires-clause-turn
hold-requires-clause-turn g c = singles_in_turn g.W.Single.said g.P.Protocol.allows c.requires.closes c.args.inbox.now.store (port.received c.args.ring.now)
    (take c.pop_some-count.result c.pop_some-count.new.words) c.requires.ended c.pop_some-count.ensures.allowed

pub returns-then-count-asked-clause-found : goal.returns-then-count-asked-clause-found
returns-then-count-asked-clause-found g c = λ _. c.pop_some-count.ensures.fewer c.if-count-asked.true (omega (arith, c.if-count-asked.true, c.min-asked.ensures))

pub returns-then-count-asked-clause-all : goal.returns-then-count-asked-clause-all
returns-then-count-asked-clause-all g c = λ _. c.pop_some-count.ensures.fewer c.if-count-asked.true (omega (arith, c.if-count-asked.true, c.min-asked.ensures))

pub returns-clause-found : goal.returns-clause-found
returns-clause-found g c = λ none.
    let words = c.pop_some-count.new.words in
    let count = c.pop_some-count.result in
    let part = take count words in
    let said = g.W.Single.said in
    absurd (omega (
      arith,
      ap length none,
      come_length (each_said said part) c.args.inbox.now c.hold.new.inbox c.hold.ensures,
      length-map part said,
      length-take count words,
      c.pop_some-count.ensures.count,
      c.pop_some-count.ensures.places,
      c.if-count-asked.false,
      c.min-asked.ensures,
      c.len.ensures,
      c.requires.few,
      c.requires.room,
    ))
