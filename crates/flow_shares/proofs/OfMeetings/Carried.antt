-- Where nothing is sent or received, the configuration stays.
use Rattle.std.proofs.Common.{◌≡◌, ℕ, ◌<◌, ◌≤◌, List, length, ◌⊎◌, inl, inr, sym, ◌∙◌, ap, arith}
use Rattle.std.proofs.lemmas.Bool.{cases_lt}
use Rattle.std.proofs.lemmas.List.{get_or_past}
use Rattle.flow_messages.specs.Ends.{View, SameTraffic}
use Rattle.flow_base.specs.declared.transducer.Transducer.{Ghosts}
use Rattle.flow_networks.specs.declared.edge.Edge.{Edge}
use Rattle.flow_networks.specs.Networks.{state_at}
use Rattle.flow_boxes.specs.Contents.{Contents}
use Rattle.flow_shares.specs.meetings.Joints.{no_contents, boxes_at, views_of, writer_view, reader_view, end_view}
use Rattle.flow_shares.specs.meetings.RoundTheorems.{NothingMoved, CarryingKeepsTheConfiguration}
use Rattle.flow_shares.specs.meetings.EndTheorems.{end_configuration}
use Rattle.flow_shares.proofs.OfMeetings.Views.{sent_at, received_at, none_sent, none_received}

-- it is enough that nothing was sent or received at the ends of each edge
module _ (share : List ℕ) (edges : List Edge) (view_at after : ℕ → View)
    (writers : (e : ℕ) → e < length edges → SameTraffic (writer_view share edges view_at e) (writer_view share edges after e))
    (readers : (e : ℕ) → e < length edges → SameTraffic (reader_view share edges view_at e) (reader_view share edges after e)) where
  same_sent : (e : ℕ) → ((e < length edges) ⊎ (length edges ≤ e)) → (end_view share edges after).sent e ≡ (end_view share edges view_at).sent e
  same_sent e (inl l) = sent_at share edges after e l ∙ (writers e l).sent e ∙ sym (sent_at share edges view_at e l)
  same_sent e (inr above) = none_sent share edges after e above ∙ sym (none_sent share edges view_at e above)

  same_received : (e : ℕ) → ((e < length edges) ⊎ (length edges ≤ e)) → (end_view share edges after).received e ≡ (end_view share edges view_at).received e
  same_received e (inl l) = received_at share edges after e l ∙ (readers e l).received e ∙ sym (received_at share edges view_at e l)
  same_received e (inr above) = none_received share edges after e above ∙ sym (none_received share edges view_at e above)

  pub same_joined : {X : Type 0} (t : Ghosts X) (states : List t.State) → end_configuration t share edges states after ≡ end_configuration t share edges states view_at
  same_joined t states = λ i. record {
    state = state_at t.behaviour states;
    sent = λ e. same_sent e (cases_lt e (length edges)) i;
    received = λ e. same_received e (cases_lt e (length edges)) i;
  }

-- where nothing moved in any share, it did not where there is no share
same_traffic : (boxes carried : List Contents) → length carried ≡ length boxes → NothingMoved (length boxes) boxes carried → (s : ℕ) → SameTraffic (boxes_at boxes s).ends (boxes_at carried s).ends
same_traffic boxes carried even nothing s = at (cases_lt s (length boxes))
  where
    at : ((s < length boxes) ⊎ (length boxes ≤ s)) → SameTraffic (boxes_at boxes s).ends (boxes_at carried s).ends
    at (inl low) = nothing s low
    at (inr above) =
        let same : boxes_at carried s ≡ boxes_at boxes s = get_or_past carried s no_contents (omega (arith, even, above)) ∙ sym (get_or_past boxes s no_contents above) in
        record { sent = λ e. ap (λ b. b.ends.sent e) same; received = λ e. ap (λ b. b.ends.received e) same }

pub carrying_keeps_the_configuration : {X : Type 0} (t : Ghosts X) → CarryingKeepsTheConfiguration t
carrying_keeps_the_configuration t share edges states boxes carried even nothing =
    same_joined share edges (views_of boxes) (views_of carried) (λ e l. same_traffic boxes carried even nothing _) (λ e l. same_traffic boxes carried even nothing _) t states
