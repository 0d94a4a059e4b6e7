-- Which of some shares has an end of an edge.
use Rattle.std.specs.Prelude.{◌≡◌, ◌⊎◌, ℕ, ◌<◌, true, false, List, length}
use Rattle.flow_messages.specs.declared.ends.Ends.{Ghosts as EndsGhosts}
use Rattle.flow_base.specs.declared.transducer.Transducer.{Ghosts}
use Rattle.flow_edges.specs.declared.lanes.rings.Rings.{Rings}
use Rattle.flow_shares.specs.declared.meetings.owners.EdgeOwners.{EdgeOwners}
use Rattle.flow_shares.specs.declared.share.Share.{Share}
use Rattle.flow_shares.specs.meetings.SharedNetworks.{view_at}

module _ {X : Type 0} {t : Ghosts X} {u : EndsGhosts Rings} (shares : List (Share X Rings t u)) (e : ℕ) where
  -- Share s has the writer's end of edge e.
  pub record HasWriter (s : ℕ) : Type 0 where
    pub inside : s < length shares
    pub there : (view_at shares s).writes e ≡ true

  -- Share s has the reader's end of edge e.
  pub record HasReader (s : ℕ) : Type 0 where
    pub inside : s < length shares
    pub there : (view_at shares s).reads e ≡ true

  -- The owner names shares that have the two ends of edge e.
  pub record HasBoth (owner : EdgeOwners) : Type 0 where
    pub writer : HasWriter owner.writer
    pub reader : HasReader owner.reader

  -- no share has the writer's end of edge e
  abbrev pub NoneWrites : Type 0
  NoneWrites = (s : ℕ) → s < length shares → (view_at shares s).writes e ≡ false

  -- no share has the reader's end of edge e
  abbrev pub NoneReads : Type 0
  NoneReads = (s : ℕ) → s < length shares → (view_at shares s).reads e ≡ false

  -- one end of edge e is in no share
  abbrev pub LacksAnEnd : Type 0
  LacksAnEnd = NoneWrites ⊎ NoneReads
