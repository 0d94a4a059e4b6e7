-- Sets of ends that are joined as owners say.
use Rattle.std.specs.Prelude.{ℕ, ◌<◌, List, length, slice_index_or}
use Rattle.flow_shares.specs.declared.meetings.owners.EdgeOwners.{EdgeOwners}

-- The two ends of each edge are those of one edge, in the shares that its owner names.
pub record AreJoined {X : Type 0} (joins : X → X → ℕ → Type 0) (owners : List EdgeOwners) (ends : List X) : Type 0 where
  -- these shares are there
  pub writers : (e : ℕ) (w : EdgeOwners) → e < length owners → (slice_index_or owners e w).writer < length ends
  pub readers : (e : ℕ) (w : EdgeOwners) → e < length owners → (slice_index_or owners e w).reader < length ends
  -- the ends that lie in them join
  pub joined : (e : ℕ) (w : EdgeOwners) (d : X) → e < length owners → let owner = slice_index_or owners e w in joins (slice_index_or ends owner.writer d) (slice_index_or ends owner.reader d) e
