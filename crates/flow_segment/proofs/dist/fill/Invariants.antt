use Rattle.std.proofs.Common.{◌≡◌, ℕ, ◌<◌, length, get_or, pos}
use Rattle.flow_segment.proofs.dist.fill.Given as goal

abbrev pub invariant-loop-place : goal.invariant-loop-place
invariant-loop-place l = record {
  length : length l.places ≡ length l.fn.places;
  filled : (k : ℕ) → k < l.place → get_or l.places k (pos 0) ≡ l.value;
}
