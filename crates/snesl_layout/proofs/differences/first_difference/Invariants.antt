use Rattle.std.proofs.Common.{◌≡◌, ◌==◌, ◌≤◌, ◌+◌, ◌-◌, drop, length}
use Rattle.std.specs.List.{common_prefix_len}
use Rattle.snesl_layout.proofs.differences.first_difference.Given as goal

-- the bytes before this one are the same
abbrev pub invariant-loop-at : goal.invariant-loop-at
invariant-loop-at l = record {
  count : common_prefix_len ◌==◌ l.one l.other ≡ l.at + common_prefix_len ◌==◌ (drop l.at l.one) (drop l.at l.other);
  within : l.at ≤ length l.one;
  within_other : l.at ≤ length l.other;
}

abbrev pub decreases-loop-at : goal.decreases-loop-at
decreases-loop-at l = length l.one - l.at
