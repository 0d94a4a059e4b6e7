-- What all shares did in a round, each by itself, is a run of the network.
use Rattle.std.proofs.Common.{◌≡◌, ℕ, ◌+◌, ◌-◌, ◌<◌, ◌≤◌, ltb, List, [], ◌++◌, length, Some, ◌⊎◌, inl, inr, sym, ◌∙◌, ap, subst, arith, lt-ltb}
use Rattle.std.proofs.lemmas.Bool.{cases_lt, cond-true, cond-false, le-ltb}
use Rattle.std.proofs.lemmas.List.{get_or_past}
use Rattle.kahn.specs.Basics.{Begins, total}
use Rattle.kahn.specs.Processes.{Process, Event, Does, reads, writes}
use Rattle.kahn.specs.Networks.{Network}
use Rattle.kahn.specs.Configurations.{Configuration, IsSound, moved}
use Rattle.kahn.specs.Runs.{Reaches}
use Rattle.kahn.specs.HistoryTheorems.{after_histories}
use Rattle.kahn.proofs.AllHistories.{all_histories_are_one_run}
use Rattle.flow_messages.specs.Signals.{Signal}
use Rattle.flow_base.specs.Transducers.{BehaviourLaws}
use Rattle.flow_base.specs.declared.transducer.Transducer.{Ghosts}
use Rattle.flow_networks.specs.declared.edge.Edge.{Edge}
use Rattle.flow_networks.specs.declared.placed.Placed.{Placed}
use Rattle.flow_networks.specs.Networks.{state_at}
use Rattle.flow_networks.specs.Places.{states_in}
use Rattle.flow_networks.specs.Skeletons.{FitTogether}
use Rattle.flow_networks.proofs.Nets.{lawful_net}
use Rattle.flow_boxes.specs.Contents.{Contents}
use Rattle.flow_shares.specs.Deals.{AreDealt}
use Rattle.flow_shares.specs.meetings.Joints.{views_of, BoxesHaveMet, AreStates}
use Rattle.flow_shares.specs.meetings.RoundTheorems.{NothingMoved, HaveGoneOn, net_of, box_configuration, RoundIsARun}
use Rattle.flow_shares.proofs.OfMeetings.Parts.{no_length, part_of_total}
use Rattle.flow_shares.proofs.OfMeetings.Seats.{nodes_count}
use Rattle.flow_shares.proofs.OfMeetings.Views.{sent_at, received_at, none_sent, none_received}
use Rattle.flow_shares.proofs.OfMeetings.Histories.{history_of, nothing_moved, does, received_own, sent_own, had_come, found_room}

module _ {X : Type 0} {t : Ghosts X} (laws : BehaviourLaws t.behaviour) (capacity : ℕ) (share : List ℕ) (edges : List Edge) (nodes : List (Placed X t)) (fit : FitTogether nodes edges)
    (dealt later : List (List (Placed X t))) (deals : AreDealt share nodes dealt) (still : AreDealt share nodes later) (states states' : List t.State)
    (are : AreStates share nodes dealt deals states) (are' : AreStates share nodes later still states') (boxes after : List Contents) (met : BoxesHaveMet share edges boxes capacity)
    (sound : IsSound t.behaviour.process (net_of nodes edges) (box_configuration t share edges states boxes)) (gone : HaveGoneOn dealt later boxes after) where
  abbrev P : Process t.State Signal
  P = t.behaviour.process

  abbrev net : Network t.State
  net = net_of nodes edges

  abbrev c : Configuration t.State Signal
  c = box_configuration t share edges states boxes

  abbrev d : Configuration t.State Signal
  d = box_configuration t share edges states' after

  -- what node k did in the round
  abbrev h : ℕ → List (Event Signal)
  h = history_of share nodes dealt later deals boxes after gone

  -- what it did before
  abbrev before_of : (k : ℕ) → (k < net.nodes) ⊎ (net.nodes ≤ k) → List (Event Signal)
  before_of k (inl node) = (sound.reached k node).history
  before_of k (inr other) = []

  abbrev before : ℕ → List (Event Signal)
  before k = before_of k (cases_lt k net.nodes)

  from : (k : ℕ) → k < net.nodes → Does P (net.opening k) (before k) (c.state k)
  from k inside = at (cases_lt k net.nodes)
    where
      at : (which : (k < net.nodes) ⊎ (net.nodes ≤ k)) → Does P (net.opening k) (before_of k which) (c.state k)
      at (inl node) = (sound.reached k node).does
      at (inr other) = absurd (omega arith)

  went : (k : ℕ) → k < net.nodes → Does P (c.state k) (h k) (state_at t.behaviour states' k)
  went k inside = does share nodes dealt later deals boxes after gone edges fit still states states' are are' k (omega (arith, inside, nodes_count edges nodes fit))

  -- no other states changed
  others : (k : ℕ) → net.nodes ≤ k → state_at t.behaviour states' k ≡ c.state k
  others k above =
      get_or_past states' k t.behaviour.sample (omega (arith, above, are'.count, nodes_count edges nodes fit))
      ∙ sym (get_or_past states k t.behaviour.sample (omega (arith, above, are.count, nodes_count edges nodes fit)))

  had : (e : ℕ) → e < net.edges → Begins (c.received e ++ reads (net.reader_port e) (h (net.reader e))) (c.sent e)
  had e l =
      let (rest, is) = had_come share nodes dealt later deals boxes after gone edges fit e l capacity met in (
        rest,
        ap (λ ms. (ms ++ reads (net.reader_port e) (h (net.reader e))) ++ rest) (received_at share edges (views_of boxes) e l) ∙ is ∙ sym (sent_at share edges (views_of boxes) e l),
      )

  room : (e : ℕ) → e < net.edges → length (c.sent e ++ writes (net.writer_port e) (h (net.writer e))) - length (c.received e) ≤ capacity
  room e l =
      let sent = ap (λ ms. length (ms ++ writes (net.writer_port e) (h (net.writer e)))) (sent_at share edges (views_of boxes) e l) in
      omega (arith, found_room share nodes dealt later deals boxes after gone edges fit e l capacity met, sent, ap length (received_at share edges (views_of boxes) e l))

  -- where all of it leads
  sent_is : (e : ℕ) → ((e < length edges) ⊎ (length edges ≤ e)) → (after_histories net c h d.state).sent e ≡ d.sent e
  sent_is e (inl l) =
      cond-true (ltb e net.edges) _ _ (lt-ltb e net.edges l)
      ∙ ap (λ ms. ms ++ writes (net.writer_port e) (h (net.writer e))) (sent_at share edges (views_of boxes) e l)
      ∙ sym (sent_own share nodes dealt later deals boxes after gone edges fit e l)
      ∙ sym (sent_at share edges (views_of after) e l)
  sent_is e (inr above) =
      cond-false (ltb e net.edges) _ _ (le-ltb e net.edges above)
      ∙ none_sent share edges (views_of boxes) e above
      ∙ sym (none_sent share edges (views_of after) e above)

  received_is : (e : ℕ) → ((e < length edges) ⊎ (length edges ≤ e)) → (after_histories net c h d.state).received e ≡ d.received e
  received_is e (inl l) =
      cond-true (ltb e net.edges) _ _ (lt-ltb e net.edges l)
      ∙ ap (λ ms. ms ++ reads (net.reader_port e) (h (net.reader e))) (received_at share edges (views_of boxes) e l)
      ∙ sym (received_own share nodes dealt later deals boxes after gone edges fit e l)
      ∙ sym (received_at share edges (views_of after) e l)
  received_is e (inr above) =
      cond-false (ltb e net.edges) _ _ (le-ltb e net.edges above)
      ∙ none_received share edges (views_of boxes) e above
      ∙ sym (none_received share edges (views_of after) e above)

  leads_to : after_histories net c h d.state ≡ d
  leads_to = λ i. record {
    state = d.state;
    sent = λ e. sent_is e (cases_lt e (length edges)) i;
    received = λ e. received_is e (cases_lt e (length edges)) i;
  }

  one_run : Reaches P net (Some capacity) c d × (moved net d ≡ moved net c + total (λ k. length (h k)) net.nodes)
  one_run =
      subst (λ x. Reaches P net (Some capacity) c x × (moved net x ≡ moved net c + total (λ k. length (h k)) net.nodes)) leads_to
      (all_histories_are_one_run P net fit.built.wired (lawful_net t.behaviour (states_in nodes) edges laws) (Some capacity) c before h d.state from went others had room)

  -- where there are no more messages, no node did anything
  idle : moved net d ≤ moved net c → (k : ℕ) → k < length nodes → h k ≡ []
  idle no_more k l = no_length (h k) (omega (arith, no_more, one_run.1, part_of_total (λ j. length (h j)) net.nodes k (omega (arith, l, nodes_count edges nodes fit))))

  more : (NothingMoved (length dealt) boxes after → ⊥) → moved net c < moved net d
  more some = at (cases_lt (moved net c) (moved net d))
    where
      at : ((moved net c < moved net d) ⊎ (moved net d ≤ moved net c)) → moved net c < moved net d
      at (inl less) = less
      at (inr no_more) = absurd (some (nothing_moved share nodes dealt later deals boxes after gone (idle no_more)))

pub a_round_is_a_run : {X : Type 0} (t : Ghosts X) → BehaviourLaws t.behaviour → RoundIsARun t
a_round_is_a_run t laws capacity share edges nodes fit dealt later deals still states states' are are' boxes after met sound gone =
    let run = one_run laws capacity share edges nodes fit dealt later deals still states states' are are' boxes after met sound gone in
    (run.0, more laws capacity share edges nodes fit dealt later deals still states states' are are' boxes after met sound gone)
