use Rattle.std.proofs.Common.{◌≡◌, ◌<◌, ℕ, true, slice_index_or}
use Rattle.flow_networks.proofs.parts.has_writers.Given as goal

abbrev pub invariant-loop-edge : goal.invariant-loop-edge
invariant-loop-edge g l = (k d : ℕ) → k < l.edge-index → (g.E.Ends.view l.ends).writes (slice_index_or l.edges k d) ≡ true
