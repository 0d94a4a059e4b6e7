-- What each node did in a round, and what came to its edges.
use Rattle.std.proofs.Common.{◌≡◌, ℕ, ◌-◌, ◌<◌, ◌≤◌, List, [], ◌++◌, length, get_or, ◌⊎◌, inl, inr, sym, ◌∙◌, ap, ap₂, subst, arith, append-nil}
use Rattle.std.proofs.lemmas.Bool.{cases_lt}
use Rattle.std.proofs.lemmas.List.{length-append}
use Rattle.std.specs.List.{All}
use Rattle.kahn.specs.Basics.{Begins}
use Rattle.kahn.specs.Processes.{Event, Does, reads, writes}
use Rattle.flow_messages.specs.Signals.{Signal}
use Rattle.flow_messages.specs.Ends.{View, SameTraffic}
use Rattle.flow_base.specs.Visits.{edge_of, IsNone}
use Rattle.flow_base.specs.declared.transducer.Transducer.{Ghosts}
use Rattle.flow_networks.specs.declared.edge.Edge.{Edge}
use Rattle.flow_networks.specs.declared.placed.Placed.{Placed}
use Rattle.flow_networks.specs.Edges.{edge_at}
use Rattle.flow_networks.specs.Networks.{state_at}
use Rattle.flow_networks.specs.Places.{placed_state}
use Rattle.flow_networks.specs.Skeletons.{FitTogether}
use Rattle.flow_boxes.specs.Contents.{Contents}
use Rattle.flow_boxes.specs.Rounds.{KeepsRound}
use Rattle.flow_shares.specs.Shares.{inputs_of, outputs_of, HaveMoved}
use Rattle.flow_shares.specs.Deals.{share_of, AreDealt}
use Rattle.flow_shares.specs.meetings.Joints.{nodes_at, boxes_at, writer_boxes, reader_boxes, BoxesHaveMet, AreStates}
use Rattle.flow_shares.specs.meetings.RoundTheorems.{NothingMoved, HaveGoneOn}
use Rattle.flow_shares.proofs.OfMeetings.Parts.{any_of, in_rows, StandsIn}
use Rattle.flow_shares.proofs.OfMeetings.Seats.{reader_inside, writer_inside, seat_reads, seat_writes, same_place}

module _ {X : Type 0} {t : Ghosts X} where
  -- nodes that did nothing left their edges as they were
  calm_share : (nodes later : List (Placed X t)) (a v : View) (moved : HaveMoved nodes later a v) → ((i : ℕ) → i < length nodes → moved.history i ≡ []) → SameTraffic a v
  calm_share nodes later a v moved none = record {
    sent = λ e. sent e (in_rows outputs_of nodes e);
    received = λ e. received e (in_rows inputs_of nodes e);
  }
    where
      received : (e : ℕ) → StandsIn inputs_of nodes e ⊎ All (λ placed. IsNone (inputs_of placed) e) nodes → v.received e ≡ a.received e
      received e (inl at) =
          let d = any_of nodes at.i at.inside in
          let stands = at.stands d in
          subst (λ f. v.received f ≡ a.received f) stands.is
          (moved.received at.i at.p d at.inside stands.inside ∙ ap (λ h. a.received (edge_of (inputs_of (get_or nodes at.i d)) at.p) ++ reads at.p h) (none at.i at.inside) ∙ append-nil _)
      received e (inr away) = moved.other_received e away

      sent : (e : ℕ) → StandsIn outputs_of nodes e ⊎ All (λ placed. IsNone (outputs_of placed) e) nodes → v.sent e ≡ a.sent e
      sent e (inl at) =
          let d = any_of nodes at.i at.inside in
          let stands = at.stands d in
          subst (λ f. v.sent f ≡ a.sent f) stands.is
          (moved.sent at.i at.p d at.inside stands.inside ∙ ap (λ h. a.sent (edge_of (outputs_of (get_or nodes at.i d)) at.p) ++ writes at.p h) (none at.i at.inside) ∙ append-nil _)
      sent e (inr away) = moved.other_sent e away

module _ {X : Type 0} {t : Ghosts X} (share : List ℕ) (nodes : List (Placed X t)) (dealt later : List (List (Placed X t)))
    (deals : AreDealt share nodes dealt) (boxes after : List Contents) (gone : HaveGoneOn dealt later boxes after) where
  -- what the nodes of share s did, and nothing where there is no such share
  abbrev did : (s : ℕ) → (s < length dealt) ⊎ (length dealt ≤ s) → ℕ → List (Event Signal)
  did s (inl there) = (gone.moved s there).history
  did s (inr above) = λ i. []

  abbrev done : ℕ → ℕ → List (Event Signal)
  done s = did s (cases_lt s (length dealt))

  -- what node k did
  abbrev pub history_of : ℕ → List (Event Signal)
  history_of k = done (share_of share k) (deals.place k)

  -- what is so of the histories of share s
  of_share : (s : ℕ) → s < length dealt → (Q : (ℕ → List (Event Signal)) → Type 0) →
      ((moved : HaveMoved (nodes_at dealt s) (nodes_at later s) (boxes_at boxes s).ends (boxes_at after s).ends) → Q moved.history) → Q (done s)
  of_share s inside Q each = at (cases_lt s (length dealt))
    where
      at : (which : (s < length dealt) ⊎ (length dealt ≤ s)) → Q (did s which)
      at (inl there) = each (gone.moved s there)
      at (inr above) = absurd (omega arith)

  -- where no node did anything, nothing was sent or received in any share
  pub nothing_moved : ((k : ℕ) → k < length nodes → history_of k ≡ []) → NothingMoved (length dealt) boxes after
  nothing_moved none s inside = at (cases_lt s (length dealt)) (λ i low. idle i low)
    where
      idle : (i : ℕ) → i < length (nodes_at dealt s) → done s i ≡ []
      idle i low =
          let back = deals.back s i (any_of (nodes_at dealt s) i low) inside low in
          ap₂ (λ r j. done r j) (sym back.1) (sym back.2) ∙ none _ back.0

      at : (which : (s < length dealt) ⊎ (length dealt ≤ s)) → ((i : ℕ) → i < length (nodes_at dealt s) → did s which i ≡ []) → SameTraffic (boxes_at boxes s).ends (boxes_at after s).ends
      at (inl there) calm = calm_share (nodes_at dealt s) (nodes_at later s) (boxes_at boxes s).ends (boxes_at after s).ends (gone.moved s there) calm
      at (inr above) calm = absurd (omega arith)

  module _ (edges : List Edge) (fit : FitTogether nodes edges) where
    module _ (still : AreDealt share nodes later) (states states' : List t.State) (are : AreStates share nodes dealt deals states) (are' : AreStates share nodes later still states') where
      -- each node went on by its history
      pub does : (k : ℕ) → k < length nodes → Does t.behaviour.process (state_at t.behaviour states k) (history_of k) (state_at t.behaviour states' k)
      does k l =
          let d = any_of nodes k l in
          let s = share_of share k in
          let i = deals.place k in
          let here = deals.inside k l in
          let same : still.place k ≡ i = same_place edges nodes fit share dealt deals later gone.places still k l in
          let after_is : state_at t.behaviour states' k ≡ placed_state (get_or (nodes_at later s) i d) = are'.each k d l ∙ ap (λ j. placed_state (get_or (nodes_at later s) j d)) same in
          let does : Does t.behaviour.process (placed_state (get_or (nodes_at dealt s) i d)) (history_of k)
          (placed_state (get_or (nodes_at later s) i d)) =
          of_share s here.0 (λ h. Does t.behaviour.process (placed_state (get_or (nodes_at dealt s) i d)) (h i)
          (placed_state (get_or (nodes_at later s) i d))) (λ moved. moved.does i d here.1) in
          subst (λ x. Does t.behaviour.process x (history_of k) (state_at t.behaviour states' k)) (sym (are.each k d l))
          (subst (λ y. Does t.behaviour.process (placed_state (get_or (nodes_at dealt s) i d)) (history_of k) y) (sym after_is) does)

    module _ (e : ℕ) (l : e < length edges) where
      -- what came to the edge by its reader and by its writer
      pub received_own : (reader_boxes share edges after e).ends.received e ≡ (reader_boxes share edges boxes e).ends.received e
          ++ reads (edge_at edges e).reader_port (history_of (edge_at edges e).reader)
      received_own =
          let k = (edge_at edges e).reader in
          let p = (edge_at edges e).reader_port in
          let inside : k < length nodes = reader_inside edges nodes fit e l in
          let d = any_of nodes k inside in
          let here = deals.inside k inside in
          let stands = seat_reads edges nodes fit share dealt deals e l d in
          subst (λ f. (reader_boxes share edges after e).ends.received f ≡ (reader_boxes share edges boxes e).ends.received f ++ reads p (history_of k)) stands.is
          (of_share (share_of share k) here.0
          (λ h. (reader_boxes share edges after e).ends.received _ ≡ (reader_boxes share edges boxes e).ends.received _
          ++ reads p (h (deals.place k))) (λ moved. moved.received (deals.place k) p d here.1 stands.inside))

      pub sent_own : (writer_boxes share edges after e).ends.sent e ≡ (writer_boxes share edges boxes e).ends.sent e ++ writes (edge_at edges e).writer_port (history_of (edge_at edges e).writer)
      sent_own =
          let k = (edge_at edges e).writer in
          let q = (edge_at edges e).writer_port in
          let inside : k < length nodes = writer_inside edges nodes fit e l in
          let d = any_of nodes k inside in
          let here = deals.inside k inside in
          let stands = seat_writes edges nodes fit share dealt deals e l d in
          subst (λ f. (writer_boxes share edges after e).ends.sent f ≡ (writer_boxes share edges boxes e).ends.sent f ++ writes q (history_of k)) stands.is
          (of_share (share_of share k) here.0
          (λ h. (writer_boxes share edges after e).ends.sent _ ≡ (writer_boxes share edges boxes e).ends.sent _ ++ writes q (h (deals.place k)))
          (λ moved. moved.sent (deals.place k) q d here.1 stands.inside))

      kept_reader : KeepsRound (reader_boxes share edges boxes e) (reader_boxes share edges after e)
      kept_reader = gone.kept (share_of share (edge_at edges e).reader) (deals.inside (edge_at edges e).reader (reader_inside edges nodes fit e l)).0

      kept_writer : KeepsRound (writer_boxes share edges boxes e) (writer_boxes share edges after e)
      kept_writer = gone.kept (share_of share (edge_at edges e).writer) (deals.inside (edge_at edges e).writer (writer_inside edges nodes fit e l)).0

      module _ (capacity : ℕ) (met : BoxesHaveMet share edges boxes capacity) where
        -- what was read had come before the round
        pub had_come : Begins
            ((reader_boxes share edges boxes e).ends.received e ++ reads (edge_at edges e).reader_port (history_of (edge_at edges e).reader))
            ((writer_boxes share edges boxes e).ends.sent e)
        had_come = (
          (reader_boxes share edges after e).ends.coming e,
          ap (λ l. l ++ (reader_boxes share edges after e).ends.coming e) (sym received_own) ∙ sym (kept_reader.arrived e) ∙ (met.carried e l).arrived,
        )

        -- what was written found room without what was read in the round
        pub found_room : length
            ((writer_boxes share edges boxes e).ends.sent e ++ writes (edge_at edges e).writer_port (history_of (edge_at edges e).writer)) - length
            ((reader_boxes share edges boxes e).ends.received e) ≤ capacity
        found_room =
            let r = (reader_boxes share edges boxes e).ends in
            omega (arith, ap length sent_own, kept_writer.places e, (met.carried e l).room, met.capacity e l, ap length (met.carried e l).arrived, length-append (r.received e) (r.coming e))
