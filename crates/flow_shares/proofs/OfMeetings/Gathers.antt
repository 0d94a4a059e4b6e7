-- Nodes that are gathered again have the states in which their shares left them.
use Rattle.std.proofs.Common.{◌≡◌, ℕ, ◌<◌, List, length, map, get_or, sym, ◌∙◌, ap, subst, arith, ext_get_or}
use Rattle.std.proofs.lemmas.List.{get_or-map, length-map}
use Rattle.flow_messages.specs.declared.ends.Ends.{Ghosts as EndsGhosts}
use Rattle.flow_base.specs.Transducers.{BehaviourLaws}
use Rattle.flow_base.specs.declared.transducer.Transducer.{Ghosts}
use Rattle.flow_networks.specs.declared.placed.Placed.{Placed}
use Rattle.flow_networks.specs.Places.{placed_state, states_in}
use Rattle.flow_networks.specs.Skeletons.{FitTogether, AreSamePlaces}
use Rattle.flow_networks.proofs.Skeletons.{later_fit}
use Rattle.flow_shares.specs.Deals.{share_of, node_at, AreDealt, AreJustDealt, AreSameAsDealt}
use Rattle.flow_shares.specs.declared.share.Share.{Share}
use Rattle.flow_shares.specs.meetings.Joints.{AreStates}
use Rattle.flow_shares.proofs.OfMeetings.Parts.{any_of}
use Rattle.flow_shares.proofs.OfMeetings.Seats.{number_is}
use Rattle.flow_shares.specs.meetings.Deals.{nodes_in}
use Rattle.flow_shares.specs.meetings.SharedNetworks.{SharedNetwork}
use Rattle.flow_shares.proofs.OfMeetings.Lists.{mapped_twice}

module _ {X Y : Type 0} {t : Ghosts X} {u : EndsGhosts Y} (network : SharedNetwork t) (shares : List (Share X Y t u)) (deals : AreDealt network.share network.nodes (nodes_in shares))
    (share : List ℕ) (named : share ≡ network.share) (lists : List (List (Placed X t))) (taken : lists ≡ nodes_in shares)
    (gathered : List (Placed X t)) (gives : AreJustDealt share gathered lists) (keeps : AreSameAsDealt share lists gathered) where
  just : AreJustDealt network.share gathered (nodes_in shares)
  just = subst (λ l. AreJustDealt network.share gathered l) taken (subst (λ s. AreJustDealt s gathered lists) named gives)

  places : AreSameAsDealt network.share (nodes_in shares) gathered
  places = subst (λ l. AreSameAsDealt network.share l gathered) taken (subst (λ s. AreSameAsDealt s lists gathered) named keeps)

  same : AreSamePlaces network.nodes gathered
  same = places network.nodes deals

  pub they_fit : BehaviourLaws t.behaviour → FitTogether gathered network.edges
  they_fit laws = later_fit laws network.nodes gathered network.edges network.fit same

  -- each lies where it was dealt out to
  same_place : (k : ℕ) → k < length network.nodes → just.place k ≡ deals.place k
  same_place k l =
      let d = any_of network.nodes k l in
      let low : k < length gathered = omega (arith, l, same.count) in
      let inside = just.inside k low in
      let number : (node_at (nodes_in shares) (share_of network.share k) (just.place k) d).number ≡ k =
      ap (λ (n : Placed X t). n.number) (sym (just.here k d low)) ∙ (same.each k d l).number ∙ number_is network.edges network.nodes network.fit k d l in
      sym (deals.back (share_of network.share k) (just.place k) d inside.0 inside.1).2 ∙ ap deals.place number

  -- and their states are those of the graph
  pub are : AreStates network.share network.nodes (nodes_in shares) deals (states_in gathered)
  are = record {
    count = length-map gathered placed_state ∙ same.count;
    each = λ k d l.
        let low : k < length gathered = omega (arith, l, same.count) in
        get_or-map placed_state gathered k d t.behaviour.sample low
        ∙ ap placed_state (just.here k d low ∙ ap (λ i. node_at (nodes_in shares) (share_of network.share k) i d) (same_place k l));
  }

  pub openings : map t.behaviour.opening (states_in gathered) ≡ map t.behaviour.opening (states_in network.nodes)
  openings =
      mapped_twice t.behaviour.opening placed_state gathered
      ∙ ext_get_or t.behaviour.sample (map opens gathered) (map opens network.nodes) (length-map gathered opens ∙ same.count ∙ sym (length-map network.nodes opens)) alike
      ∙ sym (mapped_twice t.behaviour.opening placed_state network.nodes)
    where
      opens : Placed X t → t.State
      opens placed = t.behaviour.opening (placed_state placed)

      alike : (k : ℕ) → k < length (map opens gathered) → get_or (map opens gathered) k t.behaviour.sample ≡ get_or (map opens network.nodes) k t.behaviour.sample
      alike k l =
          let low : k < length gathered = omega (arith, l, length-map gathered opens) in
          let there : k < length network.nodes = omega (arith, low, same.count) in
          let d = any_of gathered k low in
          get_or-map opens gathered k d t.behaviour.sample low ∙ (same.each k d there).opening ∙ sym (get_or-map opens network.nodes k d t.behaviour.sample there)
