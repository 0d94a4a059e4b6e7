-- A sound configuration of shares, and before any step the start of their network.
use Rattle.std.proofs.Common.{◌≡◌, ℕ, ◌<◌, ◌≤◌, nat_lt, List, [], ◌++◌, length, ◌⊎◌, inl, inr, refl, sym, ◌∙◌, ap, subst, arith}
use Rattle.std.proofs.lemmas.Bool.{cases_lt}
use Rattle.std.proofs.lemmas.List.{get_or-map}
use mathlib.Core.Logic.{∥∥₁_map}
use Rattle.kahn.specs.Processes.{Does, reads, writes}
use Rattle.kahn.specs.Networks.{Network}
use Rattle.kahn.specs.Configurations.{Configuration, IsReached, Flows}
use Rattle.kahn.proofs.Parts.{sound_from}
use Rattle.flow_messages.specs.Signals.{Signal}
use Rattle.flow_messages.specs.Ends.{View}
use Rattle.flow_messages.specs.Tables.{IsFresh}
use Rattle.flow_base.specs.declared.transducer.Transducer.{Ghosts}
use Rattle.flow_networks.specs.declared.edge.Edge.{Edge}
use Rattle.flow_networks.specs.declared.placed.Placed.{Placed}
use Rattle.flow_networks.specs.Places.{placed_state, states_in}
use Rattle.flow_networks.specs.Skeletons.{FitTogether}
use Rattle.flow_networks.proofs.Nets.{opens}
use Rattle.flow_shares.specs.Shares.{inputs_of, outputs_of, HasHistory}
use Rattle.flow_shares.specs.Deals.{share_of, AreDealt}
use Rattle.flow_shares.specs.meetings.Joints.{reader_boxes, views_of, box_view, AreStates}
use Rattle.flow_shares.specs.meetings.RoundTheorems.{net_of, FreshSharesStart, MeetingIsSound}
use Rattle.flow_shares.specs.meetings.EndTheorems.{AllBegin, AllAreOwn, end_configuration, OwnSharesAreSound}
use Rattle.flow_shares.proofs.OfMeetings.Parts.{any_of, StandsAt}
use Rattle.flow_shares.proofs.OfMeetings.Seats.{nodes_count, seat, seat_reads, seat_writes}
use Rattle.flow_shares.proofs.OfMeetings.Views.{sent_at, received_at, none_sent, none_received}

pub fresh_shares_start : {X : Type 0} (t : Ghosts X) → FreshSharesStart t
fresh_shares_start t share edges nodes boxes opened empty = opens t.behaviour (states_in nodes) edges both opened fresh
  where
    -- what was sent and received, with both ends of each edge
    both : View
    both = record (box_view share edges boxes) { writes = λ e. nat_lt e (length edges); reads = λ e. nat_lt e (length edges) }

    none_sent_at : (e : ℕ) → (e < length edges) ⊎ (length edges ≤ e) → (box_view share edges boxes).sent e ≡ []
    none_sent_at e (inl l) = sent_at share edges (views_of boxes) e l ∙ (empty e l).0
    none_sent_at e (inr above) = none_sent share edges (views_of boxes) e above

    none_received_at : (e : ℕ) → (e < length edges) ⊎ (length edges ≤ e) → (box_view share edges boxes).received e ≡ []
    none_received_at e (inl l) = received_at share edges (views_of boxes) e l ∙ (empty e l).1
    none_received_at e (inr above) = none_received share edges (views_of boxes) e above

    fresh : IsFresh (length edges) both
    fresh = record { writes = λ e. refl; reads = λ e. refl; sent = λ e. none_sent_at e (cases_lt e (length edges)); received = λ e. none_received_at e (cases_lt e (length edges)) }

module _ {X : Type 0} {t : Ghosts X} (share : List ℕ) (edges : List Edge) (nodes : List (Placed X t)) (fit : FitTogether nodes edges)
    (dealt : List (List (Placed X t))) (deals : AreDealt share nodes dealt) (states : List t.State) (are : AreStates share nodes dealt deals states)
    (view_at : ℕ → View) where
  abbrev c : Configuration t.State Signal
  c = end_configuration t share edges states view_at

  abbrev net : Network t.State
  net = net_of nodes edges

  -- node k opened in its share as it did in the network
  opening_is : (k : ℕ) (d : Placed X t) → k < length nodes → net.opening k ≡ t.behaviour.opening (placed_state (seat edges nodes fit share dealt deals k d))
  opening_is k d l =
      get_or-map t.behaviour.opening (states_in nodes) k t.behaviour.sample t.behaviour.sample (omega (arith, l, nodes_count edges nodes fit))
      ∙ ap t.behaviour.opening (get_or-map placed_state nodes k d t.behaviour.sample l)
      ∙ sym (deals.here k d l).opening

  -- its history in its share is its history in the network
  reached_at : (k : ℕ) (d : Placed X t) → k < length nodes → HasHistory (view_at (share_of share k)) (seat edges nodes fit share dealt deals k d) → IsReached t.behaviour.process net c k
  reached_at k d l has = record {
    history = has.history;
    does = subst (λ s. Does t.behaviour.process s has.history (c.state k)) (sym (opening_is k d l))
        (subst (λ s. Does t.behaviour.process (t.behaviour.opening (placed_state x)) has.history s) (sym (are.each k d l)) has.does);
    received = λ e low at.
        let stands : StandsAt (inputs_of x) (net.reader_port e) e =
        subst (λ j. StandsAt (inputs_of (seat edges nodes fit share dealt deals j d)) (net.reader_port e) e) at
        (seat_reads edges nodes fit share dealt deals e low d) in
        received_at share edges view_at e low
        ∙ ap (λ j. (view_at (share_of share j)).received e) at
        ∙ subst (λ f. view.received f ≡ reads (net.reader_port e) has.history) stands.is (has.received (net.reader_port e) stands.inside);
    sent = λ e low at.
        let stands : StandsAt (outputs_of x) (net.writer_port e) e =
        subst (λ j. StandsAt (outputs_of (seat edges nodes fit share dealt deals j d)) (net.writer_port e) e) at
        (seat_writes edges nodes fit share dealt deals e low d) in
        sent_at share edges view_at e low
        ∙ ap (λ j. (view_at (share_of share j)).sent e) at
        ∙ subst (λ f. view.sent f ≡ writes (net.writer_port e) has.history) stands.is (has.sent (net.writer_port e) stands.inside);
  }
    where
      x : Placed X t
      x = seat edges nodes fit share dealt deals k d

      view : View
      view = (view_at (share_of share k))

  flows : AllBegin share edges view_at → Flows net c
  flows begins e l = let (rest, is) = begins e l in (rest, ap (λ ms. ms ++ rest) (received_at share edges view_at e l) ∙ is ∙ sym (sent_at share edges view_at e l))

  all_reached : AllAreOwn dealt view_at → (k : ℕ) → k < net.nodes → ∥ IsReached t.behaviour.process net c k ∥₁
  all_reached own k inside =
      let l : k < length nodes = omega (arith, inside, nodes_count edges nodes fit) in
      let d = any_of nodes k l in
      let here = deals.inside k l in
      ∥∥₁_map (own (share_of share k) here.0 (deals.place k) d here.1) (reached_at k d l)

pub own_shares_are_sound : {X : Type 0} (t : Ghosts X) → OwnSharesAreSound t
own_shares_are_sound t share edges nodes fit dealt deals states are view_at begins own =
    sound_from t.behaviour.process (net_of nodes edges) (end_configuration t share edges states view_at)
    (all_reached share edges nodes fit dealt deals states are view_at own)
    (flows share edges nodes fit dealt deals states are view_at begins)

pub a_meeting_is_sound : {X : Type 0} (t : Ghosts X) → MeetingIsSound t
a_meeting_is_sound t capacity share edges nodes fit dealt deals states are boxes met own =
    own_shares_are_sound t share edges nodes fit dealt deals states are (views_of boxes)
    (λ e l. ((reader_boxes share edges boxes e).ends.coming e, (met.carried e l).arrived)) own
