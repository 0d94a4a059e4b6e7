use Rattle.std.proofs.Common.{◌≡◌, ◌++◌}
use Rattle.flow_messages.specs.Contents.{unit_messages}
use Rattle.flow_messages.proofs.histories.with_units.Given as goal

-- the units so far
abbrev pub invariant-loop : goal.invariant-loop
invariant-loop l = l.all.items ≡ l.fn.history.items ++ unit_messages l.counter
