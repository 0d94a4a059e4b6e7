use Rattle.std.proofs.Common.{◌≡◌, ◌<◌, ℕ, length, get_or}
use Rattle.flow_networks.proofs.serial.numbers_below.Given as goal

-- number k stands at k
abbrev pub invariant-loop-number : goal.invariant-loop-number
invariant-loop-number l = record {
  count : length l.numbers.items ≡ l.number;
  each : (k d : ℕ) → k < l.number → get_or l.numbers.items k d ≡ k;
}
