use Rattle.std.specs.Prelude.{◌≡◌, ◌<◌, ℕ, false, slice_index_or}
use Rattle.flow_shares.proofs.meetings.standing.are_calm.Given as goal

abbrev pub invariant-loop-share : goal.invariant-loop-share
invariant-loop-share g l = (k : ℕ) (d : _) → k < l.share-index → (slice_index_or l.shares k d).moved ≡ false
