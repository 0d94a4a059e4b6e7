-- A whole epoch: the ends of every edge meet, all shares are pumped, and the ends meet again.
use Rattle.std.proofs.Common.{◌≡◌, ℕ, ◌+◌, ◌-◌, ◌<◌, ◌≤◌, List, [], ◌++◌, length, get_or, true, false, Some, ◌⊎◌, inl, inr, refl, sym, ◌∙◌, ap, subst, arith}
use Rattle.std.proofs.lemmas.Bool.{cases_lt}
use Rattle.std.specs.List.{All}
use native.Mathlib.Bridge.{le_prop}
use mathlib.Core.Logic.{∥∥₁_elim}
use Rattle.kahn.specs.Basics.{Begins, total}
use Rattle.kahn.specs.Configurations.{Configuration, moved}
use Rattle.kahn.specs.Runs.{AtRest}
use Rattle.kahn.specs.Traffic.{WholeTraffic}
use Rattle.kahn.proofs.Conclusions.{whole_traffic}
use Rattle.flow_messages.specs.Signals.{Signal}
use Rattle.flow_messages.specs.Ends.{View, SameTraffic}
use Rattle.flow_messages.specs.declared.ends.Ends.{Ghosts as EndsGhosts}
use Rattle.flow_base.specs.Transducers.{BehaviourLaws}
use Rattle.flow_base.specs.declared.transducer.Transducer.{Ghosts}
use Rattle.flow_base.specs.Visits.{edge_of}
use Rattle.flow_networks.specs.declared.placed.Placed.{Placed}
use Rattle.flow_networks.specs.Places.{placed_state, states_in}
use Rattle.flow_networks.specs.Skeletons.{AreSamePlaces}
use Rattle.flow_networks.proofs.Nets.{lawful_net}
use Rattle.flow_edges.specs.declared.lanes.rings.Rings.{Rings}
use Rattle.flow_edges.specs.lanes.Rings.{SameRings}
use Rattle.flow_edges.specs.lanes.SameEnds.{same_rings_refl, same_rings_trans}
use Rattle.flow_shares.specs.declared.share.Share.{Share}
use Rattle.kahn.specs.Processes.{reads, writes}
use Rattle.flow_shares.specs.Shares.{inputs_of, outputs_of, IsOwn, Grows, AreStuck, HaveMoved, HaveMovedAndLost}
use Rattle.flow_shares.specs.Pumps.{IsPumped}
use Rattle.flow_shares.specs.Lending.{ShareNodes}
use Rattle.flow_shares.proofs.Calm.{stuck_before}
use Rattle.flow_shares.proofs.Later.{same_places_refl, same_places_then}
use Rattle.flow_shares.specs.meetings.Joints.{nodes_at, states_in_shares, AreStates}
use Rattle.flow_shares.specs.meetings.RoundTheorems.{net_of}
use Rattle.flow_shares.specs.meetings.EndTheorems.{end_configuration}
use Rattle.flow_shares.proofs.OfMeetings.Parts.{any_of}
use Rattle.flow_shares.proofs.OfMeetings.States.{are_states, states_stay}
use Rattle.flow_shares.proofs.OfMeetings.Carried.{same_joined}
use Rattle.flow_shares.proofs.OfMeetings.Meetings.{own_shares_are_sound}
use Rattle.flow_shares.proofs.OfMeetings.Calm.{stuck_shares_rest}
use Rattle.flow_shares.specs.meetings.Deals.{nodes_in, ends_in}
use Rattle.flow_shares.specs.meetings.SharedNetworks.{SharedNetwork, view_at, AreFed, AreCalm, NoneCanStep}
use Rattle.flow_drives.specs.loops.Epochs.{moved_in, IsLater, AreLater, AreOfOneGraph, SharesHaveMet, shares_configuration, StandSound, StandAtRest, StandAsBefore, HaveMetSince, IsEpoch}
use Rattle.flow_drives.proofs.OfLoops.ShareLists.{count_dealt, nodes_are, view_is, ends_are, all_are_stuck, same_count, same_nodes, same_body}
use Rattle.flow_drives.proofs.OfLoops.EpochMeets.{writer_is_share, reader_is_share}
use Rattle.flow_drives.proofs.OfLoops.Pumps.{pumped_ends, pumped_places, grows, none_moved, none_says, calm_moves_none, none_could_step, states_stayed}

same_then : (a b c : View) → SameTraffic a b → SameTraffic b c → SameTraffic a c
same_then a b c p q = record { sent = λ e. q.sent e ∙ p.sent e; received = λ e. q.received e ∙ p.received e }

-- what grew from b to c grew from a to d
pub grows_between : (a b c d : View) → SameTraffic a b → Grows b c → SameTraffic c d → Grows a d
grows_between a b c d p g q = record {
  received = λ e. subst (λ xs. Begins xs (d.received e)) (p.received e) (subst (λ ys. Begins (b.received e) ys) (sym (q.received e)) (g.received e));
  sent = λ e. subst (λ xs. Begins xs (d.sent e)) (p.sent e) (subst (λ ys. Begins (b.sent e) ys) (sym (q.sent e)) (g.sent e));
}

-- and so did the nodes that moved from b to c
module _ {X : Type 0} {t : Ghosts X} (nodes later : List (Placed X t)) (a b c d : View) (p : SameTraffic a b) (q : SameTraffic c d) where
  pub moved_between : HaveMoved nodes later b c → HaveMoved nodes later a d
  moved_between m = record {
    history = m.history;
    does = m.does;
    received = λ k i x l port. q.received (edge_of (inputs_of (get_or nodes k x)) i) ∙ m.received k i x l port
        ∙ ap (λ xs. xs ++ reads i (m.history k)) (p.received (edge_of (inputs_of (get_or nodes k x)) i));
    sent = λ k i x l port. q.sent (edge_of (outputs_of (get_or nodes k x)) i) ∙ m.sent k i x l port ∙ ap (λ xs. xs ++ writes i (m.history k)) (p.sent (edge_of (outputs_of (get_or nodes k x)) i));
    other_received = λ e none. q.received e ∙ m.other_received e none ∙ p.received e;
    other_sent = λ e none. q.sent e ∙ m.other_sent e none ∙ p.sent e;
  }

  pub lost_between : HaveMovedAndLost nodes later b c → HaveMovedAndLost nodes later a d
  lost_between m = record {
    history = m.history;
    lost = m.lost;
    does = m.does;
    received = λ k i x l port. (
        let e = edge_of (inputs_of (get_or nodes k x)) i in
        let came : List Signal → List Signal → Type 0 = λ before after. Begins (before ++ reads i (m.history k)) after
        × (length after ≤ length (before ++ reads i (m.history k)) + 1) × ((e ≡ m.lost → ⊥) → after ≡ before ++ reads i (m.history k)) in
        subst (λ xs. came xs (d.received e)) (p.received e) (subst (λ ys. came (b.received e) ys) (sym (q.received e)) (m.received k i x l port))
        );
    sent = λ k i x l port. q.sent (edge_of (outputs_of (get_or nodes k x)) i) ∙ m.sent k i x l port ∙ ap (λ xs. xs ++ writes i (m.history k)) (p.sent (edge_of (outputs_of (get_or nodes k x)) i));
    other_received = λ e none. q.received e ∙ m.other_received e none ∙ p.received e;
    other_sent = λ e none. q.sent e ∙ m.other_sent e none ∙ p.sent e;
  }

module _ {X : Type 0} {t : Ghosts X} {u : EndsGhosts Rings} (network : SharedNetwork t) where
  -- shares whose ends have met are sound, where memory was refused to none
  pub stands_sound : (shares : List (Share X Rings t u)) → SharesHaveMet network shares → AreFed shares → StandSound network shares
  stands_sound shares met fed graph =
      own_shares_are_sound t network.share network.edges network.nodes network.fit (nodes_in shares) graph.deals (states_in_shares network.share network.nodes (nodes_in shares) graph.deals)
      (are_states network.share network.edges network.nodes network.fit (nodes_in shares) graph.deals) (view_at shares) (λ e l. (met e l).begins) own
    where
      own : (s : ℕ) → s < length (nodes_in shares) → All (IsOwn (view_at shares s)) (nodes_at (nodes_in shares) s)
      own s h =
          let l : s < length shares = omega (arith, h, count_dealt shares) in
          let d = any_of shares s l in
          subst (λ n. All (IsOwn (view_at shares s)) n) (sym (nodes_are shares s d l))
          (subst (λ v. All (IsOwn v) (get_or shares s d).nodes.items) (sym (view_is shares s d l)) ((get_or shares s d).own (fed s d l)))

  -- and where no node can step by the ends of its share, none can at all
  pub stands_at_rest : (shares : List (Share X Rings t u)) → SharesHaveMet network shares → NoneCanStep shares → StandAtRest network shares
  stands_at_rest shares met none graph =
      stuck_shares_rest t network.capacity network.share network.edges network.nodes network.fit (nodes_in shares) graph.deals
      (states_in_shares network.share network.nodes (nodes_in shares) graph.deals)
      (are_states network.share network.edges network.nodes network.fit (nodes_in shares) graph.deals) (view_at shares) met (all_are_stuck shares none)

  -- where nothing was sent or received, the configuration stays
  module _ (shares later : List (Share X Rings t u)) (graph : AreOfOneGraph network shares) (none : (s : ℕ) → s < length shares → SameTraffic (view_at shares s) (view_at later s)) where
    stays : (states : List t.State) → end_configuration t network.share network.edges states (view_at later) ≡ end_configuration t network.share network.edges states (view_at shares)
    stays states =
        same_joined network.share network.edges (view_at shares) (view_at later)
        (λ e l. none _ (writer_is_share network shares graph e l)) (λ e l. none _ (reader_is_share network shares graph e l)) t states

    pub moved_same : moved_in network later ≡ moved_in network shares
    moved_same = ap (λ (c : Configuration t.State Signal). total (λ e. length (c.sent e) + length (c.received e)) (length network.edges)) (stays [])

  -- the ends of every edge have met since
  module _ (shares after : List (Share X Rings t u)) (since : HaveMetSince network shares after) where
    pub met_traffic : (s : ℕ) → s < length shares → SameTraffic (view_at shares s) (view_at after s)
    met_traffic s l = (since.kept s l).traffic

    pub met_later : AreLater shares after
    met_later = record {
      count = same_count shares after since.bodies;
      each = λ s d l.
          let same = same_body shares after since.bodies s d l in
          let b = d.ends in
          record {
            number = ap (λ (x : ShareNodes t). x.number) same;
            places = subst (λ n. AreSamePlaces (get_or shares s d).nodes.items n) (sym (ap (λ (x : ShareNodes t). x.nodes) same)) (same_places_refl (get_or shares s d).nodes.items);
            ends = subst (λ r. SameRings r (get_or after s d).ends) (ends_are shares s d l b)
                (subst (λ r. SameRings (get_or (ends_in shares) s b) r) (ends_are after s d (omega (arith, l, same_count shares after since.bodies)) b) (since.ends s b l));
          };
    }

    -- they stand where they stood
    pub met_stood : StandAsBefore network shares after
    met_stood graph later = ap (λ states. end_configuration t network.share network.edges states (view_at after)) same_states
        ∙ stays shares after graph met_traffic (states_in_shares network.share network.nodes (nodes_in shares) graph.deals)
      where
        nodes : nodes_in after ≡ nodes_in shares
        nodes = same_nodes shares after since.bodies

        same_states : states_in_shares network.share network.nodes (nodes_in after) later.deals ≡ states_in_shares network.share network.nodes (nodes_in shares) graph.deals
        same_states =
            states_stay network.share network.edges network.nodes network.fit (nodes_in shares) graph.deals (nodes_in after)
            (λ s l. subst (λ ns. AreSamePlaces (nodes_at (nodes_in shares) s) (nodes_at ns s)) (sym nodes) (same_places_refl (nodes_at (nodes_in shares) s)))
            later.deals (λ s i d l low. ap (λ ns. placed_state (get_or (nodes_at ns s) i d)) nodes)
            (states_in_shares network.share network.nodes (nodes_in shares) graph.deals) (states_in_shares network.share network.nodes (nodes_in after) later.deals)
            (are_states network.share network.edges network.nodes network.fit (nodes_in shares) graph.deals)
            (are_states network.share network.edges network.nodes network.fit (nodes_in after) later.deals)

    -- a node that cannot step now could not before
    pub none_could : NoneCanStep after → NoneCanStep shares
    none_could none s d l k x inside =
        let h : s < length after = omega (arith, l, same_count shares after since.bodies) in
        let nodes : (get_or after s d).nodes.items ≡ (get_or shares s d).nodes.items = ap (λ (b : ShareNodes t). b.nodes) (same_body shares after since.bodies s d l) in
        let kept = since.kept s l in
        let stuck : AreStuck (view_at after s) (get_or shares s d).nodes.items =
        subst (λ ns. AreStuck (view_at after s) ns) nodes
        (subst (λ v. AreStuck v (get_or after s d).nodes.items) (sym (view_is after s d h)) (none s d h)) in
        subst (λ v. AreStuck v (get_or shares s d).nodes.items) (view_is shares s d l)
        (λ j y low. stuck_before (view_at shares s) (view_at after s) kept.coming kept.room _ _ _ (stuck j y low)) k x inside

  module _ (same_is : (a b : Rings) → u.same a b → SameRings a b) (laws : BehaviourLaws t.behaviour) (shares mid pumped back : List (Share X Rings t u))
      (first : HaveMetSince network shares mid) (count : length pumped ≡ length mid)
      (each : (s : ℕ) (d : Share X Rings t u) → s < length mid → IsPumped (get_or mid s d) (get_or pumped s d))
      (second : HaveMetSince network pumped back)
      (graph : AreOfOneGraph network shares) (pumped_graph : AreOfOneGraph network pumped) where
    mid_count : length mid ≡ length shares
    mid_count = same_count shares mid first.bodies

    back_count : length back ≡ length pumped
    back_count = same_count pumped back second.bodies

    later_at : (s : ℕ) (d : Share X Rings t u) → s < length shares → IsLater (get_or shares s d) (get_or back s d)
    later_at s d l =
        let at_mid : s < length mid = omega (arith, l, mid_count) in
        let at_pumped : s < length pumped = omega (arith, at_mid, count) in
        let at_back : s < length back = omega (arith, at_pumped, back_count) in
        let before = same_body shares mid first.bodies s d l in
        let after = same_body pumped back second.bodies s d at_pumped in
        let went = each s d at_mid in
        let b = d.ends in
        record {
          number = ap (λ (x : ShareNodes t). x.number) after ∙ went.number ∙ ap (λ (x : ShareNodes t). x.number) before;
          places = subst (λ n. AreSamePlaces n (get_or back s d).nodes.items) (ap (λ (x : ShareNodes t). x.nodes) before)
              (subst (λ m. AreSamePlaces (get_or mid s d).nodes.items m) (sym (ap (λ (x : ShareNodes t). x.nodes) after)) went.places);
          ends = subst (λ r. SameRings r (get_or back s d).ends) (ends_are shares s d l b)
              (subst (λ r. SameRings (get_or (ends_in shares) s b) r) (ends_are back s d at_back b)
              (same_rings_trans _ _ _ (first.ends s b l) (same_rings_trans _ _ _ (pumped_ends same_is network mid pumped count each first.graph s b at_mid) (second.ends s b at_pumped))));
        }

    later : AreLater shares back
    later = record { count = back_count ∙ count ∙ mid_count; each = later_at }

    -- what each share sent and received is what it had, and what came after
    grown : (s : ℕ) → s < length shares → Grows (view_at shares s) (view_at back s)
    grown s l =
        let at_mid : s < length mid = omega (arith, l, mid_count) in
        grows_between _ _ _ _ (met_traffic shares mid first s l) (grows same_is network mid pumped count each first.graph s at_mid) (met_traffic pumped back second s (omega (arith, at_mid, count)))

    -- what a pump made of a share, the epoch made of it
    of_pump : (Q : List (Placed X t) → List (Placed X t) → View → View → Type 0)
        → ((nodes later : List (Placed X t)) (a b c d : View) → SameTraffic a b → SameTraffic c d → Q nodes later b c → Q nodes later a d)
        → (s : ℕ) (d : Share X Rings t u) → s < length shares
        → Q (get_or mid s d).nodes.items (get_or pumped s d).nodes.items (u.view (get_or mid s d).ends) (u.view (get_or pumped s d).ends)
        → Q (get_or shares s d).nodes.items (get_or back s d).nodes.items (view_at shares s) (view_at back s)
    of_pump Q between s d l of =
        let at_mid : s < length mid = omega (arith, l, mid_count) in
        let at_pumped : s < length pumped = omega (arith, at_mid, count) in
        let before = ap (λ (x : ShareNodes t). x.nodes) (same_body shares mid first.bodies s d l) in
        let after = ap (λ (x : ShareNodes t). x.nodes) (same_body pumped back second.bodies s d at_pumped) in
        between (get_or shares s d).nodes.items (get_or back s d).nodes.items (view_at shares s) (view_at mid s) (view_at pumped s) (view_at back s)
        (met_traffic shares mid first s l) (met_traffic pumped back second s at_pumped)
        (subst (λ n. Q n (get_or back s d).nodes.items (view_at mid s) (view_at pumped s)) before
        (subst (λ n. Q (get_or mid s d).nodes.items n (view_at mid s) (view_at pumped s)) (sym after)
        (subst (λ v. Q (get_or mid s d).nodes.items (get_or pumped s d).nodes.items v (view_at pumped s)) (sym (view_is mid s d at_mid))
        (subst (λ v. Q (get_or mid s d).nodes.items (get_or pumped s d).nodes.items (u.view (get_or mid s d).ends) v) (sym (view_is pumped s d at_pumped)) of))))

    -- a share starved where its pump did
    starved_at : (s : ℕ) (d : Share X Rings t u) → s < length shares → (get_or back s d).starved ≡ (get_or pumped s d).starved
    starved_at s d l = ap (λ (x : ShareNodes t). x.starved) (same_body pumped back second.bodies s d (omega (arith, l, mid_count, count)))

    went : (s : ℕ) (d : Share X Rings t u) → s < length shares → (get_or back s d).starved ≡ false →
        HaveMoved (get_or shares s d).nodes.items (get_or back s d).nodes.items (view_at shares s) (view_at back s)
    went s d l fed = of_pump HaveMoved moved_between s d l ((each s d (omega (arith, l, mid_count))).moved (sym (starved_at s d l) ∙ fed))

    lost : (s : ℕ) (d : Share X Rings t u) → s < length shares → (get_or back s d).starved ≡ true →
        HaveMovedAndLost (get_or shares s d).nodes.items (get_or back s d).nodes.items (view_at shares s) (view_at back s)
    lost s d l starved = of_pump HaveMovedAndLost lost_between s d l ((each s d (omega (arith, l, mid_count))).lost (sym (starved_at s d l) ∙ starved))

    module _ (fed : AreFed back) where
      fed_pumped : AreFed pumped
      fed_pumped s d l = sym (ap (λ (x : ShareNodes t). x.starved) (same_body pumped back second.bodies s d l)) ∙ fed s d (omega (arith, l, back_count))

      -- nothing was sent or received while the ends met
      first_moved : moved_in network mid ≡ moved_in network shares
      first_moved = moved_same shares mid graph (met_traffic shares mid first)

      second_moved : moved_in network back ≡ moved_in network pumped
      second_moved = moved_same pumped back pumped_graph (met_traffic pumped back second)

      calm : AreCalm back → moved_in network back ≡ moved_in network shares
      calm still =
          second_moved
          ∙ moved_same mid pumped first.graph
          (calm_moves_none same_is network mid pumped count each first.graph fed_pumped
          (λ s d l. sym (ap (λ (x : ShareNodes t). x.moved) (same_body pumped back second.bodies s d l))
          ∙ still s d (omega (arith, l, back_count))))
          ∙ first_moved

      no_more : moved_in network back ≤ moved_in network shares → moved_in network pumped ≤ moved_in network mid
      no_more most = omega (arith, most, first_moved, second_moved)

      busy : (AreCalm back → ⊥) → moved_in network shares < moved_in network back
      busy some = at (cases_lt (moved_in network shares) (moved_in network back))
        where
          at : ((moved_in network shares < moved_in network back) ⊎ (moved_in network back ≤ moved_in network shares)) → moved_in network shares < moved_in network back
          at (inl less) = less
          at (inr most) =
              absurd (some (λ s d l.
              let h : s < length pumped = omega (arith, l, back_count) in
              ap (λ (x : ShareNodes t). x.moved) (same_body pumped back second.bodies s d h) ∙ none_says same_is network mid pumped count each first.graph fed_pumped (no_more most) s d h))

      -- where a node could step, a message moved
      moves : (NoneCanStep shares → ⊥) → moved_in network shares < moved_in network back
      moves some = at (cases_lt (moved_in network shares) (moved_in network back))
        where
          at : ((moved_in network shares < moved_in network back) ⊎ (moved_in network back ≤ moved_in network shares)) → moved_in network shares < moved_in network back
          at (inl less) = less
          at (inr most) =
              absurd (some (none_could shares mid first
              (none_could_step same_is network mid pumped count each first.graph fed_pumped
              (none_moved same_is network mid pumped count each first.graph fed_pumped (no_more most)))))

      module _ (same : moved_in network back ≡ moved_in network shares) (back_graph : AreOfOneGraph network back) where
        none : (s : ℕ) → s < length mid → SameTraffic (view_at mid s) (view_at pumped s)
        none = none_moved same_is network mid pumped count each first.graph fed_pumped (no_more (omega (arith, same)))

        none_at_all : (s : ℕ) → s < length mid → SameTraffic (view_at mid s) (view_at back s)
        none_at_all s l = same_then (view_at mid s) (view_at pumped s) (view_at back s) (none s l) (met_traffic pumped back second s (omega (arith, l, count)))

        abbrev mid_states : List t.State
        mid_states = states_in_shares network.share network.nodes (nodes_in mid) first.graph.deals

        mid_are : AreStates network.share network.nodes (nodes_in mid) first.graph.deals mid_states
        mid_are = are_states network.share network.edges network.nodes network.fit (nodes_in mid) first.graph.deals

        back_nodes : nodes_in back ≡ nodes_in pumped
        back_nodes = same_nodes pumped back second.bodies

        same_states : states_in_shares network.share network.nodes (nodes_in back) back_graph.deals ≡ mid_states
        same_states =
            states_stay network.share network.edges network.nodes network.fit (nodes_in mid) first.graph.deals (nodes_in back)
            (λ s l. subst (λ later. AreSamePlaces (nodes_at (nodes_in mid) s) (nodes_at later s)) (sym back_nodes) (pumped_places same_is network mid pumped count each first.graph s l))
            back_graph.deals
            (λ s i d l low. ap (λ later. placed_state (get_or (nodes_at later s) i d)) back_nodes ∙ states_stayed same_is network mid pumped count each first.graph fed_pumped none laws s i d l low)
            mid_states (states_in_shares network.share network.nodes (nodes_in back) back_graph.deals) mid_are
            (are_states network.share network.edges network.nodes network.fit (nodes_in back) back_graph.deals)

        stood : shares_configuration network back back_graph ≡ shares_configuration network mid first.graph
        stood = ap (λ states. end_configuration t network.share network.edges states (view_at back)) same_states ∙ stays mid back first.graph none_at_all mid_states

        rest : AtRest t.behaviour.process (net_of network.nodes network.edges) (Some network.capacity) (shares_configuration network back back_graph)
        rest =
            subst (AtRest t.behaviour.process (net_of network.nodes network.edges) (Some network.capacity)) (sym stood)
            (stands_at_rest mid first.met (none_could_step same_is network mid pumped count each first.graph fed_pumped none) first.graph)

    pub is_epoch : IsEpoch network shares back
    is_epoch = record {
      later = later;
      graph = second.graph;
      met = second.met;
      grown = grown;
      went = went;
      lost = lost;
      sound = stands_sound back second.met;
      calm = calm;
      busy = busy;
      moves = moves;
      stood = λ fed same before after. stood fed same after ∙ met_stood shares mid first before first.graph;
      rest = rest;
    }

module _ {X : Type 0} {t : Ghosts X} (laws : BehaviourLaws t.behaviour) (network : SharedNetwork t) where
  pub whole : WholeTraffic t.behaviour.process (net_of network.nodes network.edges)
  whole = whole_traffic t.behaviour.process (net_of network.nodes network.edges) network.fit.built.wired (lawful_net t.behaviour (states_in network.nodes) network.edges laws) laws.settles

  -- so many messages at most are sent and received in all
  unfoldable pub most_moved : ℕ
  most_moved = moved (net_of network.nodes network.edges) whole.end

  module _ {u : EndsGhosts Rings} where
    within_most : (shares : List (Share X Rings t u)) → AreOfOneGraph network shares → StandSound network shares → moved_in network shares ≤ most_moved
    unfolding most_moved
    within_most shares graph sound = ∥∥₁_elim (sound graph) (λ x y. le_prop x y) (λ s. whole.most (shares_configuration network shares graph) s)

    -- an epoch that moves something leaves less to move
    pub left_falls : (shares back : List (Share X Rings t u)) → IsEpoch network shares back → AreFed back → (NoneCanStep shares → ⊥) →
        most_moved - moved_in network back < most_moved - moved_in network shares
    left_falls shares back epoch fed some = omega (arith, epoch.moves fed some, within_most back epoch.graph (epoch.sound fed))

-- shares later still
module _ {X : Type 0} {t : Ghosts X} {u : EndsGhosts Rings} where
  pub later_refl : (shares : List (Share X Rings t u)) → AreLater shares shares
  later_refl shares = record { count = refl; each = λ s d l. record { number = refl; places = same_places_refl (get_or shares s d).nodes.items; ends = same_rings_refl (get_or shares s d).ends } }

  pub later_then : (shares mid later : List (Share X Rings t u)) → AreLater shares mid → AreLater mid later → AreLater shares later
  later_then shares mid later p q = record {
    count = q.count ∙ p.count;
    each = λ s d l.
        let a = p.each s d l in
        let b = q.each s d (omega (arith, l, p.count)) in
        record { number = b.number ∙ a.number; places = same_places_then _ _ _ a.places b.places; ends = same_rings_trans _ _ _ a.ends b.ends };
  }
