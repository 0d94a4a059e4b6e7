-- The ends of all shares, by the shares' numbers, and the owners of all edges, by the edges' numbers.
use Rattle.std.specs.Prelude.{◌≡◌, ℕ, ◌<◌, List, length, slice_index_or}
use Rattle.flow_messages.specs.Ends.{View}
use Rattle.flow_shares.specs.declared.meetings.owners.EdgeOwners.{EdgeOwners}
use Rattle.flow_shares.specs.meetings.Met.{Met}

-- the fact holds of the owner of each edge
abbrev pub EachOwner : (EdgeOwners → Type 0) → List EdgeOwners → Type 0
EachOwner Fact owners = (e : ℕ) (w : _) → e < length owners → Fact (slice_index_or owners e w)

module _ {Y : Type 0} where
  -- the ends of each share, before and after, are in this relation
  abbrev pub EachBecame : (Y → Y → Type 0) → List Y → List Y → Type 0
  EachBecame Relation old new = (k : ℕ) (d : _) → k < length old → Relation (slice_index_or old k d) (slice_index_or new k d)

  -- no edge has another number of slots than before
  abbrev pub SlotsStay : (Y → ℕ → ℕ) → List Y → List Y → Type 0
  SlotsStay slots old new = (k e : ℕ) (d : _) → k < length old → slots (slice_index_or new k d) e ≡ slots (slice_index_or old k d) e

  -- the two ends of edge e, which has this owner, are those of one edge
  abbrev pub JoinsAt : (Y → Y → ℕ → Type 0) → List Y → EdgeOwners → ℕ → Type 0
  JoinsAt joins ends owner e = (d : _) → joins (slice_index_or ends owner.writer d) (slice_index_or ends owner.reader d) e

  -- so are those of every edge
  abbrev pub JoinsEverywhere : (Y → Y → ℕ → Type 0) → List Y → List EdgeOwners → Type 0
  JoinsEverywhere joins ends owners =
      (e : ℕ) (w : _) (d : _) → e < length owners
      → let owner = slice_index_or owners e w in joins (slice_index_or ends owner.writer d) (slice_index_or ends owner.reader d) e

  -- the two ends of edge e, which has this owner, have met
  abbrev pub HaveMetAt : (Y → View) → (Y → ℕ → ℕ) → List Y → EdgeOwners → ℕ → Type 0
  HaveMetAt view slots ends owner e =
      (d : _) → let a = slice_index_or ends owner.writer d in Met (view a) (view (slice_index_or ends owner.reader d)) (slots a e) e

  -- so have those of every edge
  abbrev pub HaveMetEverywhere : (Y → View) → (Y → ℕ → ℕ) → List Y → List EdgeOwners → Type 0
  HaveMetEverywhere view slots ends owners =
      (e : ℕ) (w : _) (d : _) → e < length owners
      → let owner = slice_index_or owners e w in
      let a = slice_index_or ends owner.writer d in Met (view a) (view (slice_index_or ends owner.reader d)) (slots a e) e
