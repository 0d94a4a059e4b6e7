-- The view of all shares: below the number of edges what the shares see, and nothing from there on.
use Rattle.std.proofs.Common.{◌≡◌, ℕ, ◌<◌, ◌≤◌, List, [], length, lt-ltb}
use Rattle.std.proofs.lemmas.Bool.{cond-true, cond-false, le-ltb}
use Rattle.flow_messages.specs.Ends.{View}
use Rattle.flow_networks.specs.declared.edge.Edge.{Edge}
use Rattle.flow_shares.specs.meetings.Joints.{writer_view, reader_view, end_view}

module _ (share : List ℕ) (edges : List Edge) (view_at : ℕ → View) (e : ℕ) where
  pub sent_at : e < length edges → (end_view share edges view_at).sent e ≡ (writer_view share edges view_at e).sent e
  sent_at l = cond-true _ _ _ (lt-ltb e (length edges) l)

  pub received_at : e < length edges → (end_view share edges view_at).received e ≡ (reader_view share edges view_at e).received e
  received_at l = cond-true _ _ _ (lt-ltb e (length edges) l)

  pub none_sent : length edges ≤ e → (end_view share edges view_at).sent e ≡ []
  none_sent above = cond-false _ _ _ (le-ltb e (length edges) above)

  pub none_received : length edges ≤ e → (end_view share edges view_at).received e ≡ []
  none_received above = cond-false _ _ _ (le-ltb e (length edges) above)
