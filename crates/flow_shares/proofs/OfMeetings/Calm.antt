-- Where the nodes of no share can step by what their own ends are certain of, no node can step.
use Rattle.std.proofs.Common.{◌≡◌, ℕ, ◌<◌, List, [], ◌∷◌, ◌++◌, length, Some, sym, ◌∙◌, ap, subst, arith}
use Rattle.std.proofs.lemmas.List.{length-append, length_push}
use Rattle.kahn.specs.declared.want.Want.{Want}
use Rattle.kahn.specs.declared.want.Want.TheVariants.{Read, Write, Ended, Faulted}
use Rattle.kahn.specs.Processes.{Reads, Writes}
use Rattle.kahn.specs.Configurations.{Configuration}
use Rattle.kahn.specs.Runs.{AtRest}
use Rattle.flow_messages.specs.Signals.{Signal}
use Rattle.flow_messages.specs.Ends.{View, held, SameTraffic}
use Rattle.flow_base.specs.Visits.{edge_of, IsStuck}
use Rattle.flow_base.specs.declared.transducer.Transducer.{Ghosts}
use Rattle.flow_networks.specs.declared.edge.Edge.{Edge}
use Rattle.flow_networks.specs.declared.placed.Placed.{Placed}
use Rattle.flow_networks.specs.Edges.{edge_at}
use Rattle.flow_networks.specs.Networks.{state_at}
use Rattle.flow_networks.specs.Skeletons.{FitTogether}
use Rattle.flow_boxes.specs.Contents.{Contents}
use Rattle.flow_boxes.specs.Rounds.{KeepsRound}
use Rattle.flow_shares.specs.Shares.{inputs_of, outputs_of}
use Rattle.flow_shares.specs.Deals.{share_of, AreDealt}
use Rattle.flow_shares.specs.meetings.Met.{met_held, arrives_whole}
use Rattle.flow_shares.specs.meetings.Joints.{boxes_at, views_of, writer_view, reader_view, writer_boxes, reader_boxes, BoxesHaveMet, AreStates}
use Rattle.flow_shares.specs.meetings.RoundTheorems.{AllStuck, net_of, box_configuration, CalmRoundsRest, CalmRoundLeadsToRest}
use Rattle.flow_shares.specs.meetings.EndTheorems.{EdgesHaveMet, AllAreStuck, end_configuration, StuckSharesRest}
use Rattle.flow_shares.proofs.OfMeetings.Parts.{any_of}
use Rattle.flow_shares.proofs.OfMeetings.Seats.{reader_inside, writer_inside, seat, seat_reads, seat_writes}
use Rattle.flow_shares.proofs.OfMeetings.Carried.{same_joined}
use Rattle.flow_shares.proofs.OfMeetings.Views.{sent_at, received_at}

module _ {X : Type 0} {t : Ghosts X} (capacity : ℕ) (share : List ℕ) (edges : List Edge) (nodes : List (Placed X t)) (fit : FitTogether nodes edges)
    (dealt : List (List (Placed X t))) (deals : AreDealt share nodes dealt) (states : List t.State) (are : AreStates share nodes dealt deals states)
    (view_at : ℕ → View) (met : EdgesHaveMet share edges view_at capacity) (stuck : AllAreStuck dealt view_at) where
  abbrev c : Configuration t.State Signal
  c = end_configuration t share edges states view_at

  -- node k is stuck by the ends of its share
  stuck_at : (k : ℕ) (d : Placed X t) → k < length nodes → (w : Want) → t.behaviour.process.want (state_at t.behaviour states k) ≡ w
      → IsStuck (inputs_of (seat edges nodes fit share dealt deals k d)) (outputs_of (seat edges nodes fit share dealt deals k d)) (view_at (share_of share k)) w
  stuck_at k d l w wants =
      let s = share_of share k in
      let x = seat edges nodes fit share dealt deals k d in
      let here = deals.inside k l in
      subst (IsStuck (inputs_of x) (outputs_of x) (view_at s)) (ap t.behaviour.process.want (sym (are.each k d l)) ∙ wants) (stuck s here.0 (deals.place k) d here.1)

  module _ (e : ℕ) (l : e < length edges) where
    nothing_comes : t.behaviour.process.want (state_at t.behaviour states (edge_at edges e).reader) ≡ Read (edge_at edges e).reader_port → held (reader_view share edges view_at e) e ≡ 0
    nothing_comes wants =
        let k = (edge_at edges e).reader in
        let inside : k < length nodes = reader_inside edges nodes fit e l in
        let d = any_of nodes k inside in
        subst (λ f. held (reader_view share edges view_at e) f ≡ 0) (seat_reads edges nodes fit share dealt deals e l d).is (stuck_at k d inside (Read (edge_at edges e).reader_port) wants)

    no_room : t.behaviour.process.want (state_at t.behaviour states (edge_at edges e).writer) ≡ Write (edge_at edges e).writer_port → (writer_view share edges view_at e).room e ≡ 0
    no_room wants =
        let k = (edge_at edges e).writer in
        let inside : k < length nodes = writer_inside edges nodes fit e l in
        let d = any_of nodes k inside in
        subst (λ f. (writer_view share edges view_at e).room f ≡ 0) (seat_writes edges nodes fit share dealt deals e l d).is (stuck_at k d inside (Write (edge_at edges e).writer_port) wants)

  -- how many messages the view of all shares has on an edge
  sent_count : (e : ℕ) → e < length edges → length (c.sent e) ≡ length ((writer_view share edges view_at e).sent e)
  sent_count e l = ap length (sent_at share edges view_at e l)

  received_count : (e : ℕ) → e < length edges → length (c.received e) ≡ length ((reader_view share edges view_at e).received e)
  received_count e l = ap length (received_at share edges view_at e l)

  pub at_rest : AtRest t.behaviour.process (net_of nodes edges) (Some capacity) c
  at_rest (Reads e m) (l, wants, (rest, is)) =
      absurd (omega (
        arith,
        sent_count e l,
        received_count e l,
        met_held _ _ _ _ (met e l),
        nothing_comes e l wants,
        ap length is,
        length-append (c.received e ++ m ∷ []) rest,
        length_push (c.received e) m,
      ))
  at_rest (Writes e m) (l, wants, is, room) = absurd (omega (arith, sent_count e l, received_count e l, (met e l).room, no_room e l wants, room))

pub stuck_shares_rest : {X : Type 0} (t : Ghosts X) → StuckSharesRest t
stuck_shares_rest t capacity share edges nodes fit dealt deals states are view_at met stuck = at_rest capacity share edges nodes fit dealt deals states are view_at met stuck

-- boxes that have met are ends that have met
pub all_met : (capacity : ℕ) (share : List ℕ) (edges : List Edge) (boxes : List Contents) → BoxesHaveMet share edges boxes capacity → EdgesHaveMet share edges (views_of boxes) capacity
all_met capacity share edges boxes met e l =
    let w = (writer_boxes share edges boxes e).ends in
    let r = (reader_boxes share edges boxes e).ends in
    let arrived = ap length (met.carried e l).arrived in
    let both = length-append (r.received e) (r.coming e) in
    record {
      begins = (r.coming e, (met.carried e l).arrived);
      arrives = arrives_whole (w.sent e) (r.received e ++ r.coming e) (met.carried e l).arrived;
      room = omega (arith, arrived, both, (met.carried e l).room, met.capacity e l);
      fits = omega (arith, arrived, both, (met.carried e l).room, met.capacity e l);
    }

pub calm_rounds_rest : {X : Type 0} (t : Ghosts X) → CalmRoundsRest t
calm_rounds_rest t capacity share edges nodes fit dealt deals states are boxes met stuck =
    stuck_shares_rest t capacity share edges nodes fit dealt deals states are (views_of boxes) (all_met capacity share edges boxes met) stuck

-- what is stuck after a round in which nothing was sent or received was so before
stuck_before : (inputs outputs : List ℕ) (a b : Contents) → KeepsRound a b → SameTraffic a.ends b.ends → (w : Want) → IsStuck inputs outputs b.ends w → IsStuck inputs outputs a.ends w
stuck_before inputs outputs a b kept same (Read p) stuck =
    let e = edge_of inputs p in
    omega (arith, stuck, ap length (kept.arrived e), ap length (same.received e), length-append (a.ends.received e) (a.ends.coming e), length-append (b.ends.received e) (b.ends.coming e))
stuck_before inputs outputs a b kept same (Write q) stuck = let e = edge_of outputs q in omega (arith, stuck, kept.places e, ap length (same.sent e))
stuck_before inputs outputs a b kept same Ended stuck = tt
stuck_before inputs outputs a b kept same (Faulted fault) stuck = tt

pub a_calm_round_leads_to_rest : {X : Type 0} (t : Ghosts X) → CalmRoundLeadsToRest t
a_calm_round_leads_to_rest t capacity share edges nodes fit dealt later deals still states' are' boxes after met gone nothing stuck =
    subst (AtRest t.behaviour.process (net_of nodes edges) (Some capacity)) (sym same)
    (calm_rounds_rest t capacity share edges nodes fit later still states' are' boxes met before)
  where
    before : AllStuck later boxes
    before s l i d low =
        let there : s < length dealt = omega (arith, l, gone.count) in
        stuck_before _ _ (boxes_at boxes s) (boxes_at after s) (gone.kept s there) (nothing s there) _ (stuck s l i d low)

    same : box_configuration t share edges states' after ≡ box_configuration t share edges states' boxes
    same = same_joined share edges (views_of boxes) (views_of after)
        (λ e l. nothing _ (deals.inside (edge_at edges e).writer (writer_inside edges nodes fit e l)).0)
        (λ e l. nothing _ (deals.inside (edge_at edges e).reader (reader_inside edges nodes fit e l)).0)
        t states'
