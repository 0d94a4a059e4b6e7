-- Fresh ends of all edges, each in the share that its owner names.
use Rattle.std.specs.Prelude.{◌≡◌, ◌==◌, ℕ, ◌<◌, true, false, List, [], length, slice_index_or}
use Rattle.std.specs.declared.vec.Vec.{Vec}
use Rattle.flow_messages.specs.declared.message.Kind.{Kind}
use Rattle.flow_messages.specs.Kinds.{TakesKind}
use Rattle.flow_messages.specs.Ends.{View}
use Rattle.flow_messages.specs.Tables.{at_line}
use Rattle.flow_networks.specs.declared.edge.Edge.{Edge}
use Rattle.flow_networks.specs.Edges.{edge_at}
use Rattle.flow_networks.specs.EdgeKinds.{kind_at}
use Rattle.flow_shares.specs.declared.meetings.owners.EdgeOwners.{EdgeOwners}
use Rattle.flow_shares.specs.meetings.Met.{Met}
use Rattle.flow_shares.specs.Deals.{share_of}

-- The owner of each edge names the shares of its writer and its reader.
pub record AreOwners (share : List ℕ) (edges : List Edge) (owners : List EdgeOwners) : Type 0 where
  pub count : length owners ≡ length edges
  pub writers : (e : ℕ) (w : EdgeOwners) → e < length edges → (slice_index_or owners e w).writer ≡ share_of share (edge_at edges e).writer
  pub readers : (e : ℕ) (w : EdgeOwners) → e < length edges → (slice_index_or owners e w).reader ≡ share_of share (edge_at edges e).reader

-- Share s has just the ends that the owners name it for, and they are fresh.
pub record HasFreshEnds (owners : List EdgeOwners) (kinds : List Kind) (capacity s : ℕ) (v : View) : Type 0 where
  -- a writer's end is there of each edge that s writes, and of no other
  pub writes : (e : ℕ) → v.writes e ≡ at_line (λ (owner : EdgeOwners). owner.writer == s) owners e false
  -- a reader's end is there of each edge that s reads, and of no other
  pub reads : (e : ℕ) → v.reads e ≡ at_line (λ (owner : EdgeOwners). owner.reader == s) owners e false
  -- the writer takes all items of the edge's kind, has sent nothing, and has room for the capacity
  pub kind : (e : ℕ) → v.writes e ≡ true → TakesKind (v.kind e) (kind_at kinds e)
  pub sent : (e : ℕ) → v.writes e ≡ true → v.sent e ≡ []
  pub room : (e : ℕ) → v.writes e ≡ true → v.room e ≡ capacity
  -- the reader has received nothing, and nothing is coming
  pub received : (e : ℕ) → v.reads e ≡ true → v.received e ≡ []
  pub coming : (e : ℕ) → v.reads e ≡ true → v.coming e ≡ []

-- These are the ends of all shares, by the shares' numbers.
pub record AreFreshEnds {X : Type 0} (view : X → View) (joins : X → X → ℕ → Type 0) (slots_of : X → ℕ → ℕ) (owners : List EdgeOwners) (kinds : List Kind) (capacity : ℕ) (ends : List X) : Type 0 where
  -- each share has its ends, and they are fresh
  pub fresh : (s : ℕ) (d : X) → s < length ends → HasFreshEnds owners kinds capacity s (view (slice_index_or ends s d))
  -- the two ends of each edge are those of one edge
  pub joined : (e : ℕ) (w : EdgeOwners) (d : X) → e < length owners → let owner = slice_index_or owners e w in joins (slice_index_or ends owner.writer d) (slice_index_or ends owner.reader d) e
  -- each edge holds at most the capacity
  pub places : (e : ℕ) (w : EdgeOwners) (d : X) → e < length owners → slots_of (slice_index_or ends (slice_index_or owners e w).writer d) e ≡ capacity
  -- the two ends of each edge stand as after a meeting
  pub met : (e : ℕ) (w : EdgeOwners) (d : X) → e < length owners → let owner = slice_index_or owners e w in
      Met (view (slice_index_or ends owner.writer d)) (view (slice_index_or ends owner.reader d)) capacity e

-- the same as `AreFreshEnds`, of a vector
abbrev pub AreOpenEnds : {X Z : Type 0} → (X → View) → (X → X → ℕ → Type 0) → (X → ℕ → ℕ) → List EdgeOwners → List Kind → ℕ → Vec X Z → Type 0
AreOpenEnds view joins slots_of owners kinds capacity ends = AreFreshEnds view joins slots_of owners kinds capacity ends.items
