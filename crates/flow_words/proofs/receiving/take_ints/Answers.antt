use Rattle.std.proofs.Common.{length, take, ap, ◌∙◌, arith}
use Rattle.std.proofs.lemmas.List.{length-take}
use Rattle.rtrb.specs.Ring as port
use Rattle.flow_messages.specs.Stores.{content_of}
use Rattle.flow_words.specs.declared.words.Group.TheVariants.{None as NoGroup}
use Rattle.flow_words.specs.declared.ring.ReaderWords.TheVariants.{Ints as IntsFrom}
use Rattle.flow_words.specs.Words.{group_after}
use Rattle.flow_words.proofs.Holding.{no_length}
use Rattle.flow_words.proofs.Taking.{takes_more, ints_took, half_grown, none_known}
use Rattle.flow_words.proofs.InTurn.{ints_in_turn}
use Rattle.flow_words.proofs.receiving.take_ints.Goals as goal

pub hold_words-now-requires : goal.hold_words-now-requires
hold_words-now-requires c =
    let count = c.pop_some-count.result in
    let words = c.pop_some-count.new.words in
    record {
      room = omega (arith, c.pop_some-count.ensures.count, length-take count words, c.min-asked.ensures, c.len.ensures);
      kind = c.requires.kind;
      turn = ints_in_turn c.args.inbox.now.store (port.received c.args.ring.now) (take count words) c.args.group c.requires.half c.requires.ended c.pop_some-count.ensures.allowed;
    }

pub returns-then-count-asked-clause-half : goal.returns-then-count-asked-clause-half
returns-then-count-asked-clause-half c = c.hold_words-now.ensures.group
    ∙ half_grown (port.received c.args.ring.now) (port.received c.pop_some-count.new.ring) _ c.args.group c.pop_some-count.ensures.taken.1 c.requires.half

pub returns-then-count-asked-clause-came : goal.returns-then-count-asked-clause-came
returns-then-count-asked-clause-came c =
    let pop = c.pop_some-count.ensures in (
      _,
      ints_took c.args.ring.now c.pop_some-count.new.ring _ c.args.group c.args.inbox.now c.hold_words-now.new.inbox c.requires.half pop.taken.0 pop.taken.1 pop.taken.2 pop.allowed
          c.hold_words-now.ensures.come,
    )

pub returns-then-count-asked-clause-found : goal.returns-then-count-asked-clause-found
returns-then-count-asked-clause-found c = λ _. none_known (group_after NoGroup (port.received c.pop_some-count.new.ring)) (port.known_items c.pop_some-count.new.ring)
    (c.pop_some-count.ensures.fewer (omega (arith, c.if-count-asked.true)) (omega (arith, c.if-count-asked.true, c.min-asked.ensures)))

pub returns-then-count-asked-clause-all : goal.returns-then-count-asked-clause-all
returns-then-count-asked-clause-all c = λ _. none_known (group_after NoGroup (port.received c.pop_some-count.new.ring)) (port.known_items c.pop_some-count.new.ring)
    (c.pop_some-count.ensures.fewer (omega (arith, c.if-count-asked.true)) (omega (arith, c.if-count-asked.true, c.min-asked.ensures)))

pub returns-then-len-gt0-clause-half : goal.returns-then-len-gt0-clause-half
returns-then-len-gt0-clause-half c = c.hold_words-now.ensures.group
    ∙ half_grown (port.received c.args.ring.now) (port.received c.pop_some-count.new.ring) _ c.args.group c.pop_some-count.ensures.taken.1 c.requires.half

pub returns-then-len-gt0-clause-came : goal.returns-then-len-gt0-clause-came
returns-then-len-gt0-clause-came c =
    let pop = c.pop_some-count.ensures in (
      _,
      ints_took c.args.ring.now c.pop_some-count.new.ring _ c.args.group c.args.inbox.now c.hold_words-now.new.inbox c.requires.half pop.taken.0 pop.taken.1 pop.taken.2 pop.allowed
          c.hold_words-now.ensures.come,
    )

pub returns-then-len-gt0-clause-found : goal.returns-then-len-gt0-clause-found
returns-then-len-gt0-clause-found c = λ none. absurd (omega (arith, ap length none, c.len-2.ensures, c.if-len-gt0.true))

pub take_whole-requires-clause-half : goal.take_whole-requires-clause-half
take_whole-requires-clause-half c = c.hold_words-now.ensures.group
    ∙ half_grown (port.received c.args.ring.now) (port.received c.pop_some-count.new.ring) _ c.args.group c.pop_some-count.ensures.taken.1 c.requires.half

pub take_whole-requires-clause-room : goal.take_whole-requires-clause-room
take_whole-requires-clause-room c = omega (arith, c.requires.room, c.hold_words-now.ensures.come.capacity)

pub take_whole-requires-clause-none : goal.take_whole-requires-clause-none
take_whole-requires-clause-none c = no_length (content_of c.hold_words-now.new.inbox.store) (omega (arith, c.len-2.ensures, c.if-len-gt0.false))

pub returns-clause-came : goal.returns-clause-came
returns-clause-came c =
    let pop = c.pop_some-count.ensures in
    let first = ints_took c.args.ring.now c.pop_some-count.new.ring _ c.args.group c.args.inbox.now c.hold_words-now.new.inbox c.requires.half pop.taken.0 pop.taken.1 pop.taken.2
    pop.allowed c.hold_words-now.ensures.come in (
      _,
      takes_more _ _ (IntsFrom c.args.ring.now) (IntsFrom c.pop_some-count.new.ring)
          (IntsFrom c.take_whole.new.ring) c.args.inbox.now c.hold_words-now.new.inbox c.take_whole.new.inbox first c.take_whole.ensures.came.1,
    )
