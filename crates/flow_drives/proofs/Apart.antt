-- Nodes that stay in their shares: they have the states of the network that was dealt out, and where they rest it rests.
use Rattle.std.proofs.Common.{◌≡◌, ℕ, ◌+◌, ◌<◌, ◌≤◌, List, length, map, get_or, Some, refl, sym, ◌∙◌, ap, subst, arith, ext_get_or}
use Rattle.std.proofs.lemmas.List.{get_or-map, length-map}
use Rattle.std.proofs.lemmas.List.FromFn.{length-map-range_with_len, get_or-map-range_with_len}
use Rattle.kahn.specs.Configurations.{Configuration, IsSound}
use Rattle.kahn.specs.Runs.{AtRest}
use Rattle.flow_messages.specs.Ends.{View}
use Rattle.flow_messages.specs.Signals.{Signal}
use Rattle.flow_messages.specs.declared.ends.Ends.{Ghosts as EndsGhosts}
use Rattle.flow_base.specs.Transducers.{BehaviourLaws}
use Rattle.flow_base.specs.declared.transducer.Transducer.{Ghosts}
use Rattle.flow_networks.specs.declared.edge.Edge.{Edge}
use Rattle.flow_networks.specs.declared.placed.Placed.{Placed}
use Rattle.flow_networks.specs.Kept.{IsBuilt}
use Rattle.flow_networks.specs.Skeletons.{FitTogether}
use Rattle.flow_networks.specs.Networks.{state_at, configuration_of}
use Rattle.flow_networks.specs.Places.{placed_state, states_in}
use Rattle.flow_networks.specs.Shapes.{IsSameNetwork}
use Rattle.flow_networks.proofs.Reached.{same_length, same_network, built_openings}
use Rattle.flow_edges.specs.declared.lanes.rings.Rings.{Rings}
use Rattle.flow_edges.specs.lanes.Rings.{ends_of}
use Rattle.flow_shares.specs.Deals.{share_of, AreDealt}
use Rattle.flow_shares.specs.declared.share.Share.{Share}
use Rattle.flow_shares.specs.meetings.Joints.{nodes_at, no_ends, AreStates}
use Rattle.flow_shares.proofs.OfMeetings.Parts.{any_of}
use Rattle.flow_shares.specs.meetings.Deals.{nodes_in, ends_in}
use Rattle.flow_shares.specs.meetings.SharedNetworks.{SharedNetwork, view_at, moves_by, AreFed}
use Rattle.flow_shares.proofs.OfMeetings.Lists.{mapped_twice}
use Rattle.flow_drives.specs.loops.Epochs.{AreOfOneGraph, SharesHaveMet, StandSound, StandAtRest}
use Rattle.flow_drives.proofs.OfLoops.EpochGathers.{HaveRested, have_rested}
use Rattle.flow_drives.proofs.OfLoops.ShareLists.{ends_are}
use Rattle.flow_drives.specs.Apart.{AreItsPlaces, AreThePlaces, HavePlaces, state_in_place, states_in_places, states_apart, traffic_apart, RestApart}
use Rattle.flow_drives.specs.Edges.{seen_by, moves_over}
use Rattle.flow_drives.proofs.Gathered.{of_lines}

-- a part is no more than the whole
pub part_of : (a b c : ℕ) → a + b ≤ c → a ≤ c
part_of a b c all = omega arith

module _ {X : Type 0} {t : Ghosts X} (share places : List ℕ) (dealt : List (List (Placed X t))) where
  -- there are as many states as places, and each is that of the node at its place
  pub count_apart : length (states_in_places share places dealt) ≡ length places
  count_apart = length-map-range_with_len (state_in_place share places dealt) 0 (length places)

  pub state_apart : (k : ℕ) → k < length places → state_at t.behaviour (states_in_places share places dealt) k ≡ state_in_place share places dealt k
  state_apart k l = get_or-map-range_with_len (state_in_place share places dealt) 0 (length places) k k t.behaviour.sample l (omega arith)

  -- a node that was found at its place has the state of its number
  pub state_found : (k : ℕ) → k < length places → HavePlaces share places dealt → (x : Placed X t) → x ≡ get_or (nodes_at dealt (share_of share k)) (get_or places k 0) x
      → placed_state x ≡ state_at t.behaviour (states_in_places share places dealt) k
  state_found k l lie x is =
      ap placed_state is
      ∙ sym (get_or-map placed_state (nodes_at dealt (share_of share k)) (get_or places k 0) x t.behaviour.sample (lie.inside k l))
      ∙ sym (state_apart k l)

module _ {X : Type 0} {t : Ghosts X} (laws : BehaviourLaws t.behaviour) (edges : List Edge) (nodes : List (Placed X t)) (fit : FitTogether nodes edges)
    (share : List ℕ) (dealt : List (List (Placed X t))) (deals : AreDealt share nodes dealt) (places : List ℕ) (known : AreItsPlaces share nodes dealt deals places) where
  abbrev states : List t.State
  states = states_in_places share places dealt

  pub have_places : HavePlaces share places dealt
  have_places = record {
    shares = λ k l. (deals.inside k (omega (arith, l, known.count))).0;
    inside = λ k l.
        let low : k < length nodes = omega (arith, l, known.count) in
        subst (λ i. i < length (nodes_at dealt (share_of share k))) (sym (known.each k low)) (deals.inside k low).1;
  }

  pub are_apart : AreStates share nodes dealt deals states
  are_apart = record {
    count = count_apart share places dealt ∙ known.count;
    each = λ k d l.
        state_apart share places dealt k (omega (arith, l, known.count))
        ∙ ap (λ i. state_at t.behaviour (states_in (nodes_at dealt (share_of share k))) i) (known.each k l)
        ∙ get_or-map placed_state (nodes_at dealt (share_of share k)) (deals.place k) d t.behaviour.sample (deals.inside k l).1;
  }

  -- they opened as the nodes did that were dealt out
  openings : map t.behaviour.opening states ≡ map t.behaviour.opening (states_in nodes)
  openings =
      ext_get_or t.behaviour.sample (map t.behaviour.opening states) (map t.behaviour.opening (states_in nodes))
      (length-map states t.behaviour.opening ∙ are_apart.count ∙ sym (length-map nodes placed_state) ∙ sym (length-map (states_in nodes) t.behaviour.opening)) alike
    where
      alike : (k : ℕ) → k < length (map t.behaviour.opening states) → get_or (map t.behaviour.opening states) k t.behaviour.sample
          ≡ get_or (map t.behaviour.opening (states_in nodes)) k t.behaviour.sample
      alike k l =
          let low : k < length nodes = omega (arith, l, length-map states t.behaviour.opening, are_apart.count) in
          let d = any_of nodes k low in
          get_or-map t.behaviour.opening states k t.behaviour.sample t.behaviour.sample (omega (arith, low, are_apart.count))
          ∙ ap t.behaviour.opening (are_apart.each k d low) ∙ (deals.here k d low).opening
          ∙ ap t.behaviour.opening (sym (get_or-map placed_state nodes k d t.behaviour.sample low))
          ∙ sym (get_or-map t.behaviour.opening (states_in nodes) k t.behaviour.sample t.behaviour.sample (omega (arith, low, length-map nodes placed_state)))

  -- so they make the same network
  pub same_apart : IsSameNetwork t.behaviour (states_in nodes) edges states edges
  same_apart = record {
    nodes = same_length t.behaviour laws (states_in nodes) states openings;
    same_edges = refl;
    network = same_network t.behaviour laws (states_in nodes) states openings edges edges refl;
  }

  pub built_apart : IsBuilt t.behaviour states edges
  built_apart = built_openings t.behaviour laws (states_in nodes) states openings edges fit.built

-- the ends of a share that was found
module _ {X : Type 0} {t : Ghosts X} {u : EndsGhosts Rings} (shares : List (Share X Rings t u)) (s : ℕ) (l : s < length shares)
    (own : Share X Rings t u) (found : (d : Share X Rings t u) → own ≡ get_or shares s d) where
  pub ends_found : (b : Rings) → own.ends ≡ get_or (ends_in shares) s b
  ends_found b = ap (λ (share : Share X Rings t u). share.ends) (found own) ∙ sym (ends_are shares s own l b)

-- shares of one graph that came to rest
module _ {X : Type 0} {t : Ghosts X} {u : EndsGhosts Rings} (laws : BehaviourLaws t.behaviour) (sees : u.view ≡ ends_of) (network : SharedNetwork t)
    (shares : List (Share X Rings t u)) (graph : AreOfOneGraph network shares)
    (places : List ℕ) (known : AreThePlaces network shares places) where
  abbrev dealt : List (List (Placed X t))
  dealt = nodes_in shares

  -- what they see is what is seen of their rings
  seen_apart : view_at shares ≡ seen_by ends_of (ends_in shares)
  seen_apart =
      ap {B = ℕ → View} (λ (vs : List View) (s : ℕ). get_or vs s no_ends)
      (sym (mapped_twice u.view (λ (share : Share X Rings t u). share.ends) shares) ∙ ap (λ (v : Rings → View). map v (ends_in shares)) sees)

  same : IsSameNetwork t.behaviour (states_in network.nodes) network.edges (states_apart network.share places shares) network.edges
  same = same_apart laws network.edges network.nodes network.fit network.share dealt graph.deals places (known graph.deals)

  abbrev where_they_stand : Configuration t.State Signal
  where_they_stand = configuration_of t.behaviour (states_apart network.share places shares) (traffic_apart network.share network.edges shares)

  module _ (named : 0 < length network.share) (fed : AreFed shares) (sound : StandSound network shares) (rest : StandAtRest network shares) (met : SharesHaveMet network shares) where
    rested : HaveRested network (states_apart network.share places shares) (ends_in shares)
    rested =
        have_rested network shares graph sound rest met (states_apart network.share places shares)
        (λ deals. are_apart laws network.edges network.nodes network.fit network.share dealt deals places (known deals))
        (ends_in shares) refl sees

    they_rest : RestApart network.share places network.edges shares network.capacity
    they_rest = record {
      named = named;
      fed = fed;
      lie = have_places laws network.edges network.nodes network.fit network.share dealt graph.deals places (known graph.deals);
      nodes = ∣ record {
        nodes = network.nodes;
        fit = network.fit;
        deals = graph.deals;
        are = are_apart laws network.edges network.nodes network.fit network.share dealt graph.deals places (known graph.deals);
      } ∣₁;
      built = built_apart laws network.edges network.nodes network.fit network.share dealt graph.deals places (known graph.deals);
      joined = ∣ record { writers = rested.writers; readers = rested.readers; joined = rested.joined; met = rested.met } ∣₁;
      slots = graph.capacity;
      sound = subst (λ net. ∥ IsSound t.behaviour.process net where_they_stand ∥₁) (sym same.network) rested.sound;
      rest = subst (λ net. AtRest t.behaviour.process net (Some network.capacity) where_they_stand) (sym same.network) rested.rest;
    }

  -- what holds in the network holds of the list, the edges and the capacity that are those of the network
  module _ (share : List ℕ) (edges : List Edge) (capacity : ℕ) (same_share : share ≡ network.share) (same_edges : edges ≡ network.edges) (same_capacity : capacity ≡ network.capacity) where
    of_network : (Q : List ℕ → List Edge → ℕ → Type 0) → Q network.share network.edges network.capacity → Q share edges capacity
    of_network = of_lines network share edges capacity same_share same_edges same_capacity

    pub rest_apart : 0 < length share → AreFed shares → StandSound network shares → StandAtRest network shares → SharesHaveMet network shares → RestApart share places edges shares capacity
    rest_apart named fed sound rest met =
        of_network (λ s e n. RestApart s places e shares n) (they_rest (subst (λ s. 0 < length s) same_share named) fed sound rest met)

    pub network_apart : IsSameNetwork t.behaviour (states_in network.nodes) network.edges (states_apart share places shares) edges
    network_apart = of_network (λ s e n. IsSameNetwork t.behaviour (states_in network.nodes) network.edges (states_apart s places shares) e) same

    -- as many messages went over the edges
    pub moved_apart : (Q : ℕ → Type 0) → Q (moves_by network (view_at shares)) → Q (moves_over edges (traffic_apart share edges shares))
    moved_apart Q q = of_network (λ s e n. Q (moves_over e (traffic_apart s e shares))) (subst (λ v. Q (moves_by network v)) seen_apart q)
