use Rattle.std.proofs.Common.{◌≡◌, ◌++◌}
use Rattle.flow_values.specs.PrintMachine.{closing_brackets}
use Rattle.flow_values.proofs.ahead.Ahead.finish.Given as goal

abbrev pub invariant-loop : goal.invariant-loop
invariant-loop l = record {
  text : l.self.text.items ≡ l.fn.self.text.items ++ (l.bytes ++ closing_brackets l.counter);
  pending : l.self.pending.items ≡ l.fn.self.pending.items;
}
