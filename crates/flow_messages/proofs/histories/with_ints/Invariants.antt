use Rattle.std.proofs.Common.{◌≡◌, ◌++◌, take}
use Rattle.flow_messages.specs.Contents.{int_messages}
use Rattle.flow_messages.proofs.histories.with_ints.Given as goal

-- the items so far
abbrev pub invariant-loop-int : goal.invariant-loop-int
invariant-loop-int l = l.all.items ≡ l.fn.history.items ++ int_messages (take l.int-index l.ints)
