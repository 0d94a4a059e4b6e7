-- What pumps of all shares at once make of their graph.
use Rattle.std.proofs.Common.{◌≡◌, ℕ, ◌+◌, ◌<◌, ◌≤◌, Bool, true, false, List, length, get_or, inl, inr, refl, sym, ◌∙◌, ap, subst, arith}
use Rattle.kahn.specs.Processes.{Does}
use Rattle.flow_messages.specs.Ends.{View, SameEnds, SameTraffic}
use Rattle.flow_messages.specs.declared.ends.Ends.{Ghosts as EndsGhosts}
use Rattle.flow_base.specs.Transducers.{BehaviourLaws}
use Rattle.flow_base.specs.declared.transducer.Transducer.{Ghosts}
use Rattle.flow_networks.specs.declared.placed.Placed.{Placed}
use Rattle.flow_networks.specs.Places.{placed_state}
use Rattle.flow_networks.specs.Skeletons.{AreSamePlaces}
use Rattle.flow_edges.specs.declared.lanes.rings.Rings.{Rings}
use Rattle.flow_edges.specs.lanes.Rings.{SameRings}
use Rattle.flow_shares.specs.declared.share.Share.{Share}
use Rattle.flow_shares.specs.Shares.{inputs_of, outputs_of, Grows, HaveMoved}
use Rattle.flow_shares.specs.Pumps.{IsPumped}
use Rattle.flow_shares.proofs.Between.{moved_grows, lost_grows, find_node, begins_length, no_more}
use Rattle.flow_shares.proofs.Busy.{quiet}
use Rattle.flow_shares.specs.Deals.{AreDealt}
use Rattle.flow_shares.specs.meetings.Joints.{nodes_at, end_view}
use Rattle.flow_shares.proofs.OfMeetings.Parts.{any_of}
use Rattle.flow_shares.proofs.OfMeetings.Seats.{port_reads, port_writes, dealt_later}
use Rattle.flow_shares.proofs.OfMeetings.Views.{sent_at, received_at}
use Rattle.flow_shares.specs.meetings.Deals.{nodes_in, ends_in}
use Rattle.flow_shares.specs.meetings.SharedNetworks.{SharedNetwork, view_at, AreFed, AreCalm, NoneCanStep}
use Rattle.flow_drives.specs.loops.Epochs.{moved_in, AreOfOneGraph}
use Rattle.flow_drives.proofs.OfLoops.ShareLists.{parts_same, count_dealt, nodes_are, view_is, ends_are}
use Rattle.flow_drives.proofs.OfLoops.EpochMeets.{writer, reader, writer_is_share, reader_is_share, graph_stays}

module _ {X : Type 0} {t : Ghosts X} {u : EndsGhosts Rings} (same_is : (a b : Rings) → u.same a b → SameRings a b) (network : SharedNetwork t)
    (shares back : List (Share X Rings t u)) (count : length back ≡ length shares)
    (each : (s : ℕ) (d : Share X Rings t u) → s < length shares → IsPumped (get_or shares s d) (get_or back s d)) (graph : AreOfOneGraph network shares) where
  there : (s : ℕ) → s < length (nodes_in shares) → s < length shares
  there s l = omega (arith, l, count_dealt shares)

  low : (s : ℕ) → s < length shares → s < length back
  low s l = omega (arith, l, count)

  pub pumped_ends : (s : ℕ) (b : Rings) → s < length shares → SameRings (get_or (ends_in shares) s b) (get_or (ends_in back) s b)
  pumped_ends s b l =
      let d = any_of shares s l in
      subst (λ a. SameRings a (get_or (ends_in back) s b)) (sym (ends_are shares s d l b))
      (subst (λ c. SameRings (get_or shares s d).ends c) (sym (ends_are back s d (low s l) b)) (same_is _ _ (each s d l).same))

  pub pumped_places : (s : ℕ) → s < length (nodes_in shares) → AreSamePlaces (nodes_at (nodes_in shares) s) (nodes_at (nodes_in back) s)
  pumped_places s h =
      let l = there s h in
      let d = any_of shares s l in
      subst (λ n. AreSamePlaces n (nodes_at (nodes_in back) s)) (sym (nodes_are shares s d l))
      (subst (λ m. AreSamePlaces (get_or shares s d).nodes.items m) (sym (nodes_are back s d (low s l))) (each s d l).places)

  count_both : length (nodes_in back) ≡ length (nodes_in shares)
  count_both = count_dealt back ∙ count ∙ sym (count_dealt shares)

  pub pumped_deals : AreDealt network.share network.nodes (nodes_in back)
  pumped_deals = dealt_later network.share network.nodes (nodes_in shares) (nodes_in back) graph.deals count_both pumped_places

  abbrev some : (s : ℕ) → s < length shares → Share X Rings t u
  some s l = any_of shares s l

  -- what holds of what is seen of the ends of share s holds of what it sees
  of_views : (Q : View → View → Type 0) (s : ℕ) (l : s < length shares) → Q (u.view (get_or shares s (some s l)).ends) (u.view (get_or back s (some s l)).ends) → Q (view_at shares s) (view_at back s)
  of_views Q s l q =
      subst (λ a. Q a (view_at back s)) (sym (view_is shares s (some s l) l)) (subst (λ b. Q (u.view (get_or shares s (some s l)).ends) b) (sym (view_is back s (some s l) (low s l))) q)

  -- each share has the ends that it had
  pumped_same : (s : ℕ) → s < length shares → SameEnds (view_at shares s) (view_at back s)
  pumped_same s l = of_views SameEnds s l (each s (some s l) l).ends

  pub pumped_graph : AreOfOneGraph network back
  pumped_graph = graph_stays network shares graph back count pumped_deals pumped_ends pumped_same

  -- and of share s later, what holds of what it sees
  of_ends : (Q : View → View → Type 0) (s : ℕ) (d : Share X Rings t u) (l : s < length shares) → Q (view_at shares s) (view_at back s) →
      Q (u.view (get_or shares s d).ends) (u.view (get_or back s d).ends)
  of_ends Q s d l q = subst (λ a. Q a (u.view (get_or back s d).ends)) (view_is shares s d l) (subst (λ b. Q (view_at shares s) b) (view_is back s d (low s l)) q)

  grew : (share result : Share X Rings t u) → IsPumped share result → Grows (u.view share.ends) (u.view result.ends)
  grew share result pumped = at result.starved refl
    where
      at : (b : Bool) → result.starved ≡ b → Grows (u.view share.ends) (u.view result.ends)
      at false is = moved_grows _ _ _ _ (pumped.moved is)
      at true is = lost_grows _ _ _ _ (pumped.lost is)

  -- what each share sent and received is what it had, and what came after
  pub grows : (s : ℕ) → s < length shares → Grows (view_at shares s) (view_at back s)
  grows s l = of_views Grows s l (grew _ _ (each s (some s l) l))

  module _ (fed : AreFed back) where
    fed_at : (s : ℕ) (d : Share X Rings t u) → s < length shares → (get_or back s d).starved ≡ false
    fed_at s d l = fed s d (low s l)

    moved_at : (s : ℕ) (d : Share X Rings t u) → s < length shares →
        HaveMoved (get_or shares s d).nodes.items (get_or back s d).nodes.items (u.view (get_or shares s d).ends) (u.view (get_or back s d).ends)
    moved_at s d l = (each s d l).moved (fed_at s d l)

    -- how many messages were sent and received on edge e
    abbrev moved_on : List (Share X Rings t u) → ℕ → ℕ
    moved_on list e = let view = end_view network.share network.edges (view_at list) in length (view.sent e) + length (view.received e)

    sent_grows : (e : ℕ) → e < length network.edges → length ((end_view network.share network.edges (view_at shares)).sent e) ≤ length ((end_view network.share network.edges (view_at back)).sent e)
    sent_grows e l =
        omega (
          arith,
          ap length (sent_at network.share network.edges (view_at shares) e l),
          ap length (sent_at network.share network.edges (view_at back) e l),
          begins_length _ _ ((grows (writer network shares graph e) (writer_is_share network shares graph e l)).sent e),
        )

    received_grows : (e : ℕ) → e < length network.edges →
        length ((end_view network.share network.edges (view_at shares)).received e) ≤ length
        ((end_view network.share network.edges (view_at back)).received e)
    received_grows e l =
        omega (
          arith,
          ap length (received_at network.share network.edges (view_at shares) e l),
          ap length (received_at network.share network.edges (view_at back) e l),
          begins_length _ _ ((grows (reader network shares graph e) (reader_is_share network shares graph e l)).received e),
        )

    -- Where no more messages were sent and received in all, none were in any share.
    module _ (no_more_moved : moved_in network back ≤ moved_in network shares) where
      no_more_on : (e : ℕ) → e < length network.edges → moved_on back e ≤ moved_on shares e
      no_more_on = parts_same (moved_on shares) (moved_on back) (length network.edges) (λ e l. omega (arith, sent_grows e l, received_grows e l)) no_more_moved

      same_sent : (e : ℕ) → e < length network.edges → (view_at back (writer network shares graph e)).sent e ≡ (view_at shares (writer network shares graph e)).sent e
      same_sent e l =
          no_more _ _ ((grows (writer network shares graph e) (writer_is_share network shares graph e l)).sent e)
          (omega (arith, ap length (sent_at network.share network.edges (view_at shares) e l), ap length (sent_at network.share network.edges (view_at back) e l), no_more_on e l, received_grows e l))

      same_received : (e : ℕ) → e < length network.edges → (view_at back (reader network shares graph e)).received e ≡ (view_at shares (reader network shares graph e)).received e
      same_received e l =
          no_more _ _ ((grows (reader network shares graph e) (reader_is_share network shares graph e l)).received e)
          (omega (
            arith,
            ap length (received_at network.share network.edges (view_at shares) e l),
            ap length (received_at network.share network.edges (view_at back) e l),
            no_more_on e l,
            sent_grows e l,
          ))

      module _ (s : ℕ) (h : s < length (nodes_in shares)) where
        abbrev nodes : List (Placed X t)
        nodes = nodes_at (nodes_in shares) s

        share_moved : HaveMoved nodes (nodes_at (nodes_in back) s) (view_at shares s) (view_at back s)
        share_moved =
            let l = there s h in
            let d = some s l in
            subst (λ n. HaveMoved n (nodes_at (nodes_in back) s) (view_at shares s) (view_at back s)) (sym (nodes_are shares s d l))
            (subst (λ m. HaveMoved (get_or shares s d).nodes.items m (view_at shares s) (view_at back s)) (sym (nodes_are back s d (low s l)))
            (of_views (HaveMoved (get_or shares s d).nodes.items (get_or back s d).nodes.items) s l (moved_at s d l)))

        received_same : (e : ℕ) → (view_at back s).received e ≡ (view_at shares s).received e
        received_same e = elim (find_node inputs_of e nodes) [
          | inl none ↦ share_moved.other_received e none
          | inr (k, p, d, l, port, is) ↦ at_port (edge_of_is k p d l port is)
        ]
          where
            edge_of_is : (k p : ℕ) (d : Placed X t) (l : k < length nodes) → p < length (inputs_of (get_or nodes k d)) → e
                ≡ get_or (inputs_of (get_or nodes k d)) p 0 → (e < length network.edges) × (reader network shares graph e ≡ s)
            edge_of_is k p d l port is =
                subst (λ f. (f < length network.edges) × (reader network shares graph f ≡ s)) (sym is)
                (port_reads network.edges network.nodes network.fit network.share (nodes_in shares) graph.deals s k d h l p port)

            at_port : (e < length network.edges) × (reader network shares graph e ≡ s) → (view_at back s).received e ≡ (view_at shares s).received e
            at_port (inside, is) = subst (λ r. (view_at back r).received e ≡ (view_at shares r).received e) is (same_received e inside)

        sent_same : (e : ℕ) → (view_at back s).sent e ≡ (view_at shares s).sent e
        sent_same e = elim (find_node outputs_of e nodes) [
          | inl none ↦ share_moved.other_sent e none
          | inr (k, q, d, l, port, is) ↦ at_port (edge_of_is k q d l port is)
        ]
          where
            edge_of_is : (k q : ℕ) (d : Placed X t) (l : k < length nodes) → q < length (outputs_of (get_or nodes k d)) → e
                ≡ get_or (outputs_of (get_or nodes k d)) q 0 → (e < length network.edges) × (writer network shares graph e ≡ s)
            edge_of_is k q d l port is =
                subst (λ f. (f < length network.edges) × (writer network shares graph f ≡ s)) (sym is)
                (port_writes network.edges network.nodes network.fit network.share (nodes_in shares) graph.deals s k d h l q port)

            at_port : (e < length network.edges) × (writer network shares graph e ≡ s) → (view_at back s).sent e ≡ (view_at shares s).sent e
            at_port (inside, is) = subst (λ r. (view_at back r).sent e ≡ (view_at shares r).sent e) is (same_sent e inside)

      pub none_moved : (s : ℕ) → s < length shares → SameTraffic (view_at shares s) (view_at back s)
      none_moved s l = let h : s < length (nodes_in shares) = omega (arith, l, count_dealt shares) in record { sent = sent_same s h; received = received_same s h }

      -- then no share says that it moved any
      pub none_says : AreCalm back
      none_says s d l = at (get_or back s d).moved refl
        where
          h : s < length shares
          h = omega (arith, l, count)

          at : (b : Bool) → (get_or back s d).moved ≡ b → (get_or back s d).moved ≡ false
          at false is = is
          at true is = absurd ((each s d h).busy (fed s d l) is (of_ends SameTraffic s d h (none_moved s h)))

    -- where no share says that it moved any, none did
    pub calm_moves_none : AreCalm back → (s : ℕ) → s < length shares → SameTraffic (view_at shares s) (view_at back s)
    calm_moves_none calm s l = of_views SameTraffic s l ((each s (some s l) l).calm (fed_at s (some s l) l) (calm s (some s l) (low s l)))

    -- Where none was sent or received, no node could step, and all stand where they stood.
    module _ (none : (s : ℕ) → s < length shares → SameTraffic (view_at shares s) (view_at back s)) where
      pub none_could_step : NoneCanStep shares
      none_could_step s d l = (each s d l).progress (fed_at s d l) (of_ends SameTraffic s d l (none s l))

      module _ (laws : BehaviourLaws t.behaviour) where
        pub states_stayed : (s i : ℕ) (d : Placed X t) → s < length (nodes_in shares) → i < length (nodes_at (nodes_in shares) s) →
            placed_state (get_or (nodes_at (nodes_in back) s) i d) ≡ placed_state (get_or (nodes_at (nodes_in shares) s) i d)
        states_stayed s i d h inside =
            let l = there s h in
            let b = some s l in
            let old = (get_or shares s b).nodes.items in
            let new = (get_or back s b).nodes.items in
            let below : i < length old = subst (λ n. i < length n) (nodes_are shares s b l) inside in
            let moved = moved_at s b l in
            let idle = quiet laws old new _ _ moved (of_ends SameTraffic s b l (none s l)) i d below in
            let does : placed_state (get_or old i d) ≡ placed_state (get_or new i d) =
            subst (λ a. Does t.behaviour.process (placed_state (get_or old i d)) a (placed_state (get_or new i d))) idle (moved.does i d below) in
            ap (λ n. placed_state (get_or n i d)) (nodes_are back s b (low s l)) ∙ sym does ∙ ap (λ n. placed_state (get_or n i d)) (sym (nodes_are shares s b l))
