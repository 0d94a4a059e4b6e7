-- The states of nodes that are dealt out: there are some, and no two lists of them.
use Rattle.std.proofs.Common.{◌≡◌, ℕ, ◌<◌, List, length, get_or, refl, sym, ◌∙◌, ap, arith, ext_get_or}
use Rattle.std.proofs.lemmas.List.{get_or-map, get_or_default, length-map}
use Rattle.flow_base.specs.declared.transducer.Transducer.{Ghosts}
use Rattle.flow_networks.specs.declared.edge.Edge.{Edge}
use Rattle.flow_networks.specs.declared.placed.Placed.{Placed}
use Rattle.flow_networks.specs.Networks.{state_at}
use Rattle.flow_networks.specs.Places.{placed_state}
use Rattle.flow_networks.specs.Skeletons.{FitTogether, AreSamePlaces}
use Rattle.flow_shares.specs.Deals.{share_of, AreDealt}
use Rattle.flow_shares.specs.meetings.Joints.{nodes_at, states_in_shares, AreStates}
use Rattle.flow_shares.proofs.OfMeetings.Parts.{any_of}
use Rattle.flow_shares.proofs.OfMeetings.Seats.{number_is, same_place}

same_places_refl : {X : Type 0} {t : Ghosts X} (nodes : List (Placed X t)) → AreSamePlaces nodes nodes
same_places_refl nodes = record { count = refl; each = λ k d l. record { number = refl; inputs = refl; outputs = refl; opening = refl } }

module _ {X : Type 0} {t : Ghosts X} (share : List ℕ) (edges : List Edge) (nodes : List (Placed X t)) (fit : FitTogether nodes edges)
    (dealt : List (List (Placed X t))) (deals : AreDealt share nodes dealt) where
  -- the state of node k in its share
  abbrev state_of : ℕ → Placed X t → t.State
  state_of k d = placed_state (get_or (nodes_at dealt (share_of share k)) (deals.place k) d)

  abbrev pub states_of_shares : List t.State
  states_of_shares = states_in_shares share nodes dealt deals

  pub are_states : AreStates share nodes dealt deals states_of_shares
  are_states = record {
    count = length-map nodes (λ (n : Placed X t). state_of n.number n);
    each = λ k d l.
        let n = get_or nodes k d in
        get_or-map (λ (m : Placed X t). state_of m.number m) nodes k d t.behaviour.sample l
        ∙ ap (λ j. state_of j n) (number_is edges nodes fit k d l)
        ∙ ap placed_state (get_or_default (nodes_at dealt (share_of share k)) (deals.place k) n d (deals.inside k l).1);
  }

  -- nodes whose states stayed have the same states
  module _ (later : List (List (Placed X t))) (places : (s : ℕ) → s < length dealt → AreSamePlaces (nodes_at dealt s) (nodes_at later s)) (still : AreDealt share nodes later) where
    pub states_stay : ((s i : ℕ) (d : Placed X t) → s < length dealt → i < length (nodes_at dealt s) → placed_state (get_or (nodes_at later s) i d) ≡ placed_state (get_or (nodes_at dealt s) i d))
        → (one other : List t.State) → AreStates share nodes dealt deals one → AreStates share nodes later still other → other ≡ one
    states_stay stayed one other are others = ext_get_or t.behaviour.sample other one (others.count ∙ sym are.count) (λ k l. same k (omega (arith, l, others.count)))
      where
        same : (k : ℕ) → k < length nodes → state_at t.behaviour other k ≡ state_at t.behaviour one k
        same k l =
            let d = any_of nodes k l in
            let here = deals.inside k l in
            others.each k d l
            ∙ ap (λ i. placed_state (get_or (nodes_at later (share_of share k)) i d)) (same_place edges nodes fit share dealt deals later places still k l)
            ∙ stayed (share_of share k) (deals.place k) d here.0 here.1
            ∙ sym (are.each k d l)

  pub states_are_one : (also : AreDealt share nodes dealt) (one other : List t.State) → AreStates share nodes dealt deals one → AreStates share nodes dealt also other → one ≡ other
  states_are_one also one other are others = sym (states_stay dealt (λ s l. same_places_refl (nodes_at dealt s)) also (λ s i d l low. refl) one other are others)
