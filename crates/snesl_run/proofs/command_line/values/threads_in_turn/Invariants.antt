use Rattle.std.proofs.Common.{◌≡◌}
use Rattle.std.specs.List.{range_with_len}
use Rattle.snesl_run.proofs.command_line.values.threads_in_turn.Given as goal

-- the numbers so far
abbrev pub invariant-loop-thread : goal.invariant-loop-thread
invariant-loop-thread l = l.share.items ≡ range_with_len 0 l.thread
