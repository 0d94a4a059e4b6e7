use Rattle.std.proofs.Common.{◌≡◌, ◌++◌, take}
use Rattle.flow_messages.specs.Contents.{flag_messages}
use Rattle.flow_messages.proofs.histories.with_flags.Given as goal

-- the items so far
abbrev pub invariant-loop-flag : goal.invariant-loop-flag
invariant-loop-flag l = l.all.items ≡ l.fn.history.items ++ flag_messages (take l.flag-index l.flags)
