use Rattle.std.proofs.Common.{refl, ap}
use Rattle.rtrb.specs.Ring as port
use Rattle.flow_words.specs.Words.{unit_word, flag_word, each_said}
use Rattle.flow_words.proofs.Taking.{units_took, flags_took}
use Rattle.flow_words.proofs.ring.ReaderWords.drain.Goals as goal

pub returns-in-Units-clause-came : goal.returns-in-Units-clause-came
returns-in-Units-clause-came c =
    let took = c.drain_singles.ensures in
    let b = c.drain_singles.new.ring in
    rw c.in-Units.is (units_took c.in-Units.ring b (port.known_items c.in-Units.ring) c.args.inbox.now c.drain_singles.new.inbox took.ring took.taken (
      port.known_items b,
      refl,
    ) took.allowed took.come)

pub returns-in-Units-clause-none : goal.returns-in-Units-clause-none
returns-in-Units-clause-none c = ap (each_said unit_word) c.drain_singles.ensures.none

pub returns-in-Flags-clause-came : goal.returns-in-Flags-clause-came
returns-in-Flags-clause-came c =
    let took = c.drain_singles-in-Flags.ensures in
    let b = c.drain_singles-in-Flags.new.ring in
    rw c.in-Flags.is (flags_took c.in-Flags.ring b (port.known_items c.in-Flags.ring) c.args.inbox.now c.drain_singles-in-Flags.new.inbox took.ring took.taken (
      port.known_items b,
      refl,
    ) took.allowed took.come)

pub returns-in-Flags-clause-none : goal.returns-in-Flags-clause-none
returns-in-Flags-clause-none c = ap (each_said flag_word) c.drain_singles-in-Flags.ensures.none
