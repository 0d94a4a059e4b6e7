-- What opening an edge makes of what is seen of some ends.
use Rattle.std.specs.Prelude.{◌≡◌, ◌≢◌, ◌==◌, ℕ, ◌<◌, Bool, true, false, List, [], cond, length, slice_index_or}
use Rattle.flow_messages.specs.declared.message.Kind.{Kind}
use Rattle.flow_messages.specs.Kinds.{TakesKind}
use Rattle.flow_messages.specs.Ends.{View}
use Rattle.flow_networks.specs.EdgeKinds.{kind_at}
use Rattle.flow_shares.specs.declared.meetings.owners.EdgeOwners.{EdgeOwners}

-- nothing changed at any edge but e
pub record ElsewhereSame (e : ℕ) (a b : View) : Type 0 where
  pub writes : (k : ℕ) → k ≢ e → b.writes k ≡ a.writes k
  pub reads : (k : ℕ) → k ≢ e → b.reads k ≡ a.reads k
  pub sent : (k : ℕ) → k ≢ e → b.sent k ≡ a.sent k
  pub received : (k : ℕ) → k ≢ e → b.received k ≡ a.received k
  pub coming : (k : ℕ) → k ≢ e → b.coming k ≡ a.coming k
  pub room : (k : ℕ) → k ≢ e → b.room k ≡ a.room k
  pub kind : (k : ℕ) → k ≢ e → b.kind k ≡ a.kind k

-- no end is there
abbrev pub IsWithoutEnds : View → Type 0
IsWithoutEnds v = (e : ℕ) → (v.writes e ≡ false) × (v.reads e ≡ false)

-- there is a place for ends of each edge that has a kind here, if it is to be of this kind and hold so many messages at most
abbrev pub HasPlaces : {X : Type 0} → (X → ℕ → Kind → ℕ → Type 0) → List Kind → ℕ → X → Type 0
HasPlaces has_place kinds capacity ends = (e : ℕ) → e < length kinds → has_place ends e (kind_at kinds e) capacity

-- A fresh writer's end of edge e is there where `writer`, and a fresh reader's end where `reader`. Else all is as it was.
pub record OpensAt (e : ℕ) (kind : Kind) (capacity : ℕ) (writer reader : Bool) (a b : View) : Type 0 where
  pub elsewhere : ElsewhereSame e a b
  -- the writer's end is there, takes all items of the kind, has sent nothing, and has room for the capacity
  pub writes : b.writes e ≡ cond writer true (a.writes e)
  pub sent : b.sent e ≡ cond writer [] (a.sent e)
  pub room : b.room e ≡ cond writer capacity (a.room e)
  pub takes : writer ≡ true → TakesKind (b.kind e) kind
  pub same_kind : writer ≡ false → b.kind e ≡ a.kind e
  -- the reader's end is there, has received nothing, and nothing is coming
  pub reads : b.reads e ≡ cond reader true (a.reads e)
  pub received : b.received e ≡ cond reader [] (a.received e)
  pub coming : b.coming e ≡ cond reader [] (a.coming e)

-- these ends are as after an opening of edge e, by which a fresh writer's end came, or a reader's, or both
module _ {X : Type 0} (opens : ℕ → X → X → Type 0) (view : X → View) (e : ℕ) (kind : Kind) (capacity : ℕ) (old new : X) where
  abbrev pub BringsWriter : Type 0
  BringsWriter = opens e old new × OpensAt e kind capacity true false (view old) (view new)

  abbrev pub BringsReader : Type 0
  BringsReader = opens e old new × OpensAt e kind capacity false true (view old) (view new)

  abbrev pub BringsBoth : Type 0
  BringsBoth = opens e old new × OpensAt e kind capacity true true (view old) (view new)

-- Edge e is opened among the ends of all shares: its ends come to the shares that its owner names.
pub record OpensEdge {X : Type 0} (view : X → View) (joins : X → X → ℕ → Type 0) (slots_of : X → ℕ → ℕ) (opens_at : ℕ → X → X → Type 0)
    (owner : EdgeOwners) (e : ℕ) (kind : Kind) (capacity : ℕ) (old new : List X) : Type 0 where
  -- each share is as before, or as after an opening of e
  pub opens : (s : ℕ) (d : X) → s < length old → opens_at e (slice_index_or old s d) (slice_index_or new s d)
  -- the fresh ends are in the shares that are named, and else all is as it was
  pub fresh : (s : ℕ) (d : X) → s < length old → OpensAt e kind capacity (owner.writer == s) (owner.reader == s) (view (slice_index_or old s d)) (view (slice_index_or new s d))
  -- they are the two of one edge
  pub joined : (d : X) → joins (slice_index_or new owner.writer d) (slice_index_or new owner.reader d) e
  -- which holds at most the capacity
  pub places : (d : X) → slots_of (slice_index_or new owner.writer d) e ≡ capacity
