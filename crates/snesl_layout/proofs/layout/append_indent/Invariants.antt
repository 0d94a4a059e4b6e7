use Rattle.std.proofs.Common.{◌≡◌, ◌++◌}
use Rattle.snesl_layout.specs.Layout.{indent}
use Rattle.snesl_layout.proofs.layout.append_indent.Given as goal

abbrev pub invariant-loop : goal.invariant-loop
invariant-loop l = l.out.items ≡ l.initial.out.items ++ indent l.counter
