use Rattle.std.proofs.Common.{◌≡◌, ◌<◌, ℕ, length, slice_index_or}
use Rattle.flow_networks.specs.Edges.{edge_at}
use Rattle.flow_shares.specs.declared.meetings.owners.EdgeOwners.{EdgeOwners}
use Rattle.flow_shares.specs.Deals.{share_of}
use Rattle.flow_shares.proofs.meetings.owners.owners_of.Given as goal

abbrev pub invariant-loop-edge : goal.invariant-loop-edge
invariant-loop-edge l = record {
  count : length l.owners.items ≡ l.edge-index;
  writers : (e : ℕ) (w : EdgeOwners) → e < l.edge-index → (slice_index_or l.owners.items e w).writer ≡ share_of l.share (edge_at l.edges e).writer;
  readers : (e : ℕ) (w : EdgeOwners) → e < l.edge-index → (slice_index_or l.owners.items e w).reader ≡ share_of l.share (edge_at l.edges e).reader;
}
