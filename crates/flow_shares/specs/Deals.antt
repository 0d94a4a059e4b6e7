-- Nodes that were dealt out to shares.
use Rattle.std.specs.Prelude.{◌≡◌, ℕ, ◌%◌, ◌<◌, List, [], length, map, slice_index_or}
use Rattle.std.specs.declared.vec.Vec.{Vec}
use Rattle.flow_base.specs.declared.transducer.Transducer.{Ghosts}
use Rattle.flow_networks.specs.declared.placed.Placed.{Placed}
use Rattle.flow_networks.specs.Places.{numbers_in, IsSamePlace}
use Rattle.flow_networks.specs.Skeletons.{AreSamePlaces}

-- the share that has node k: the list's entry at k, modulo its length
abbrev pub share_of : List ℕ → ℕ → ℕ
share_of share k = slice_index_or share (k % length share) 0

module _ {X : Type 0} {t : Ghosts X} where
  -- the nodes in each of these lists
  abbrev pub lists_in : {Z : Type 0} → List (Vec (Placed X t) Z) → List (List (Placed X t))
  lists_in lists = map (λ nodes. nodes.items) lists

  -- node k of the list has number k
  abbrev pub AreNumbered : List (Placed X t) → Type 0
  AreNumbered nodes = (k : ℕ) → k < length nodes → slice_index_or (numbers_in nodes) k 0 ≡ k

  -- the node at place i of share s
  abbrev pub node_at : List (List (Placed X t)) → ℕ → ℕ → Placed X t → Placed X t
  node_at dealt s i d = slice_index_or (slice_index_or dealt s []) i d

  -- Each node lies in its share, at one place there, after those of smaller numbers, and nothing else does. R says
  -- what each is to the one that lies there.
  pub record AreDealtBy (R : Placed X t → Placed X t → Type 0) (share : List ℕ) (nodes : List (Placed X t)) (dealt : List (List (Placed X t))) : Type 0 where
    pub place : ℕ → ℕ
    pub inside : (k : ℕ) → k < length nodes → (share_of share k < length dealt) × (place k < length (slice_index_or dealt (share_of share k) []))
    pub order : (j k : ℕ) → j < k → k < length nodes → share_of share j ≡ share_of share k → place j < place k
    pub here : (k : ℕ) (d : Placed X t) → k < length nodes → R (slice_index_or nodes k d) (node_at dealt (share_of share k) (place k) d)
    pub back : (s i : ℕ) (d : Placed X t) → s < length dealt → i < length (slice_index_or dealt s []) → let k = (node_at dealt s i d).number in
        (k < length nodes) × (share_of share k ≡ s) × (place k ≡ i)

  -- the same nodes, perhaps later
  abbrev pub AreDealt : List ℕ → List (Placed X t) → List (List (Placed X t)) → Type 0
  AreDealt = AreDealtBy IsSamePlace

  -- just these nodes
  abbrev pub AreJustDealt : List ℕ → List (Placed X t) → List (List (Placed X t)) → Type 0
  AreJustDealt = AreDealtBy ◌≡◌

  -- so many nodes were dealt out
  pub record AreSomeDealt (share : List ℕ) (count : ℕ) (dealt : List (List (Placed X t))) : Type 0 where
    pub nodes : List (Placed X t)
    pub so_many : length nodes ≡ count
    pub so_dealt : AreDealt share nodes dealt

  -- each share became the same places later
  pub record AreSameShares (dealt later : List (List (Placed X t))) : Type 0 where
    pub count : length later ≡ length dealt
    pub each : (s : ℕ) → s < length dealt → AreSamePlaces (slice_index_or dealt s []) (slice_index_or later s [])

  -- whatever nodes were dealt out so, these are the same places
  abbrev pub AreSameAsDealt : List ℕ → List (List (Placed X t)) → List (Placed X t) → Type 0
  AreSameAsDealt share dealt gathered = (nodes : List (Placed X t)) → AreDealt share nodes dealt → AreSamePlaces nodes gathered

  -- whatever nodes were just dealt out so, these are they
  abbrev pub AreJustAsDealt : List ℕ → List (List (Placed X t)) → List (Placed X t) → Type 0
  AreJustAsDealt share dealt gathered = (nodes : List (Placed X t)) → AreJustDealt share nodes dealt → gathered ≡ nodes

  -- these nodes stay dealt out, each at its place, while their shares become the same places later
  abbrev pub StayDealt : List (Placed X t) → Type 0
  StayDealt nodes = (share : List ℕ) (dealt later : List (List (Placed X t))) → (was : AreDealt share nodes dealt) → AreSameShares dealt later →
      (is : AreDealt share nodes later) × (is.place ≡ was.place)

  -- these nodes are dealt out where they were just dealt out, each at its place
  abbrev pub AreDealtAsGiven : List (Placed X t) → Type 0
  AreDealtAsGiven nodes = (share : List ℕ) (dealt : List (List (Placed X t))) → (was : AreJustDealt share nodes dealt) → (is : AreDealt share nodes dealt) × (is.place ≡ was.place)
