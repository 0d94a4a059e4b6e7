use Rattle.std.proofs.Common.{ap, take}
use Rattle.flow_words.specs.Words.{unit_word, flag_word, each_said}
use Rattle.flow_words.proofs.Holding.{no_length}
use Rattle.flow_words.proofs.Taking.{no_unit_came, no_flag_came, units_took_later, flags_took_later}
use Rattle.flow_words.proofs.ring.ReaderWords.take_over.Goals as goal

pub returns-then-is_empty-clause-came : goal.returns-then-is_empty-clause-came
returns-then-is_empty-clause-came c =
    rw c.in-Units.is (_, no_unit_came c.in-Units.ring c.is_empty.new.self c.args.inbox.now c.if-is_empty.ensures.looked)

pub returns-else-is_empty-clause-came : goal.returns-else-is_empty-clause-came
returns-else-is_empty-clause-came c =
    let took = c.take_singles-all.ensures in
    let ws = take c.take_singles-all.result.0 c.take_singles-all.new.words in
    rw c.in-Units.is (
      _,
      units_took_later c.in-Units.ring c.is_empty.new.self c.take_singles-all.new.ring ws c.args.inbox.now c.take_singles-all.new.inbox
          c.if-is_empty.ensures.looked took.taken.0 took.taken.1 took.taken.2 took.allowed took.come,
    )

pub returns-else-is_empty-clause-found : goal.returns-else-is_empty-clause-found
returns-else-is_empty-clause-found c = λ none. ap (each_said unit_word) (no_length _ (c.take_singles-all.ensures.found none))

pub returns-else-is_empty-clause-all : goal.returns-else-is_empty-clause-all
returns-else-is_empty-clause-all c = λ few. ap (each_said unit_word) (no_length _ (c.take_singles-all.ensures.all few))

pub returns-then-is_empty-2-clause-came : goal.returns-then-is_empty-2-clause-came
returns-then-is_empty-2-clause-came c =
    rw c.in-Flags.is (_, no_flag_came c.in-Flags.ring c.is_empty-in-Flags.new.self c.args.inbox.now c.if-is_empty-2.ensures.looked)

pub returns-else-is_empty-2-clause-came : goal.returns-else-is_empty-2-clause-came
returns-else-is_empty-2-clause-came c =
    let took = c.take_singles-all-in-Flags.ensures in
    let ws = take c.take_singles-all-in-Flags.result.0 c.take_singles-all-in-Flags.new.words in
    rw c.in-Flags.is (
      _,
      flags_took_later c.in-Flags.ring c.is_empty-in-Flags.new.self c.take_singles-all-in-Flags.new.ring ws c.args.inbox.now c.take_singles-all-in-Flags.new.inbox
          c.if-is_empty-2.ensures.looked took.taken.0 took.taken.1 took.taken.2 took.allowed took.come,
    )

pub returns-else-is_empty-2-clause-found : goal.returns-else-is_empty-2-clause-found
returns-else-is_empty-2-clause-found c = λ none. ap (each_said flag_word) (no_length _ (c.take_singles-all-in-Flags.ensures.found none))

pub returns-else-is_empty-2-clause-all : goal.returns-else-is_empty-2-clause-all
returns-else-is_empty-2-clause-all c = λ few. ap (each_said flag_word) (no_length _ (c.take_singles-all-in-Flags.ensures.all few))
