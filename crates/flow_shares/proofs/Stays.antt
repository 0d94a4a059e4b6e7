-- Nodes that were dealt out stay so while their shares become the same places later.
use Rattle.std.proofs.Common.{◌≡◌, ℕ, ◌<◌, List, [], length, get_or, refl, sym, ◌∙◌, subst, arith}
use Rattle.flow_base.specs.declared.transducer.Transducer.{Ghosts}
use Rattle.flow_networks.specs.declared.placed.Placed.{Placed}
use Rattle.flow_networks.specs.Places.{IsSamePlace}
use Rattle.flow_shares.specs.Deals.{share_of, node_at, AreDealt, AreJustDealt, AreSameShares}

module _ {X : Type 0} {t : Ghosts X} where
  pub same_place : (a b : Placed X t) → a ≡ b → IsSamePlace a b
  same_place a b e = subst (λ c. IsSamePlace a c) e (record { number = refl; inputs = refl; outputs = refl; opening = refl })

  pub same_places : (a b c : Placed X t) → IsSamePlace a b → IsSamePlace b c → IsSamePlace a c
  same_places a b c first then = record {
    number = then.number ∙ first.number;
    inputs = then.inputs ∙ first.inputs;
    outputs = then.outputs ∙ first.outputs;
    opening = then.opening ∙ first.opening;
  }

  -- just these nodes are the same nodes
  abbrev pub as_given : (share : List ℕ) (nodes : List (Placed X t)) (dealt : List (List (Placed X t))) → AreJustDealt share nodes dealt → AreDealt share nodes dealt
  as_given share nodes dealt was = record {
    place = was.place;
    inside = was.inside;
    order = was.order;
    here = λ k d l. same_place (get_or nodes k d) (node_at dealt (share_of share k) (was.place k) d) (was.here k d l);
    back = was.back;
  }

  module _ (share : List ℕ) (nodes : List (Placed X t)) (dealt later : List (List (Placed X t))) (was : AreDealt share nodes dealt) (same : AreSameShares dealt later) where
    long : (s : ℕ) → s < length dealt → length (get_or later s []) ≡ length (get_or dealt s [])
    long s l = (same.each s l).count

    pub stays_inside : (k : ℕ) → k < length nodes → (share_of share k < length later) × (was.place k < length (get_or later (share_of share k) []))
    stays_inside k l =
        let h = was.inside k l in
        (omega (arith, h.0, same.count), omega (arith, h.1, long (share_of share k) h.0))

    pub stays_here : (k : ℕ) (d : Placed X t) → k < length nodes → IsSamePlace (get_or nodes k d) (node_at later (share_of share k) (was.place k) d)
    stays_here k d l =
        let h = was.inside k l in
        same_places (get_or nodes k d) (node_at dealt (share_of share k) (was.place k) d) (node_at later (share_of share k) (was.place k) d)
        (was.here k d l) ((same.each (share_of share k) h.0).each (was.place k) d h.1)

    pub stays_back : (s i : ℕ) (d : Placed X t) → s < length later → i < length (get_or later s []) → let k = (node_at later s i d).number in
        (k < length nodes) × (share_of share k ≡ s) × (was.place k ≡ i)
    stays_back s i d ls li =
        let there : s < length dealt = omega (arith, ls, same.count) in
        let within : i < length (get_or dealt s []) = omega (arith, li, long s there) in
        subst (λ (k : ℕ). (k < length nodes) × (share_of share k ≡ s) × (was.place k ≡ i)) (sym ((same.each s there).each i d within).number) (was.back s i d there within)

    abbrev pub stay_dealt : AreDealt share nodes later
    stay_dealt = record { place = was.place; inside = stays_inside; order = was.order; here = stays_here; back = stays_back }
