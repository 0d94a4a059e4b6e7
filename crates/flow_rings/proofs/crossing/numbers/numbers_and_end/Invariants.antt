use Rattle.std.proofs.Common.{◌≡◌, false}
use Rattle.flow_messages.specs.Signals.{signals, ended}
use Rattle.flow_rings.proofs.crossing.numbers.numbers_and_end.Given as goal

abbrev pub invariant-loop-value : goal.invariant-loop-value
invariant-loop-value l = ended (signals l.messages.items) ≡ false
