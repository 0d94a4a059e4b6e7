-- The ends of every edge meet: what is known of the shares before and after.
use Rattle.std.proofs.Common.{◌≡◌, ℕ, ◌<◌, List, length, map, get_or, sym, ◌∙◌, ap, subst, arith}
use Rattle.flow_messages.specs.Ends.{View, SameEnds}
use Rattle.flow_messages.specs.declared.ends.Ends.{Ghosts as EndsGhosts}
use Rattle.flow_base.specs.declared.transducer.Transducer.{Ghosts}
use Rattle.flow_networks.specs.Edges.{edge_at}
use Rattle.flow_edges.specs.declared.lanes.rings.Rings.{Rings}
use Rattle.flow_edges.specs.lanes.Rings.{Kept, ends_of, SameRings}
use Rattle.flow_edges.proofs.OfLanes.Meetings.{joins-kept}
use Rattle.flow_shares.specs.declared.meetings.owners.EdgeOwners.{EdgeOwners}
use Rattle.flow_shares.specs.meetings.Met.{Met}
use Rattle.flow_shares.specs.meetings.RingMeetings.{RingsJoin, ring_slots, rings_keep_slots}
use Rattle.flow_shares.specs.Deals.{share_of, AreDealt}
use Rattle.flow_shares.specs.declared.share.Share.{Share}
use Rattle.flow_shares.specs.Lending.{share_nodes}
use Rattle.flow_shares.proofs.OfMeetings.Parts.{any_of}
use Rattle.flow_shares.proofs.OfMeetings.Seats.{reader_inside, writer_inside}
use Rattle.flow_shares.specs.meetings.Open.{AreOwners}
use Rattle.flow_shares.specs.meetings.Deals.{nodes_in, ends_in}
use Rattle.flow_shares.specs.meetings.SharedNetworks.{SharedNetwork, view_at}
use Rattle.flow_drives.specs.loops.Epochs.{writer_rings, AreOfOneGraph, SharesHaveMet, HaveMetSince}
use Rattle.flow_drives.proofs.OfLoops.ShareLists.{count_dealt, count_ends, view_of_ends, same_count, same_nodes}

module _ {X : Type 0} {t : Ghosts X} {u : EndsGhosts Rings} (network : SharedNetwork t) (shares : List (Share X Rings t u)) (graph : AreOfOneGraph network shares) where
  -- the shares of the writer and the reader of edge e
  abbrev pub writer : ℕ → ℕ
  writer e = share_of network.share (edge_at network.edges e).writer

  abbrev pub reader : ℕ → ℕ
  reader e = share_of network.share (edge_at network.edges e).reader

  pub writer_is_share : (e : ℕ) → e < length network.edges → writer e < length shares
  writer_is_share e l = omega (arith, (graph.deals.inside (edge_at network.edges e).writer (writer_inside network.edges network.nodes network.fit e l)).0, count_dealt shares)

  pub reader_is_share : (e : ℕ) → e < length network.edges → reader e < length shares
  reader_is_share e l = omega (arith, (graph.deals.inside (edge_at network.edges e).reader (reader_inside network.edges network.nodes network.fit e l)).0, count_dealt shares)

  -- shares that have the same ends, and the nodes in their places, are of that graph too
  pub graph_stays : (after : List (Share X Rings t u)) → length after ≡ length shares → AreDealt network.share network.nodes (nodes_in after)
      → ((s : ℕ) (b : Rings) → s < length shares → SameRings (get_or (ends_in shares) s b) (get_or (ends_in after) s b))
      → ((s : ℕ) → s < length shares → SameEnds (view_at shares s) (view_at after s)) → AreOfOneGraph network after
  graph_stays after count deals ends same = record {
    deals = deals;
    joined = λ e b l.
        joins-kept (get_or (ends_in shares) (writer e) b) (get_or (ends_in after) (writer e) b) (get_or (ends_in shares) (reader e) b) (get_or (ends_in after) (reader e) b) e
        (graph.joined e b l) (ends _ b (writer_is_share e l)) (ends _ b (reader_is_share e l));
    capacity = λ e b l. rings_keep_slots _ _ (ends _ b (writer_is_share e l)) e ∙ graph.capacity e b l;
    only_writers = λ s e l there. (
        let h : s < length shares = omega (arith, l, count) in
        graph.only_writers s e h (sym ((same s h).writes e) ∙ there)
        );
    only_readers = λ s e l there. (
        let h : s < length shares = omega (arith, l, count) in
        graph.only_readers s e h (sym ((same s h).reads e) ∙ there)
        );
  }

  module _ (owners : List EdgeOwners) (are : AreOwners network.share network.edges owners) (ends : List Rings) (taken : ends ≡ ends_in shares) where
    inside : (e : ℕ) → e < length owners → e < length network.edges
    inside e l = omega (arith, l, are.count)

    count : length ends ≡ length shares
    count = ap length taken ∙ count_ends shares

    pub writers_inside : (e : ℕ) (w : EdgeOwners) → e < length owners → (get_or owners e w).writer < length ends
    writers_inside e w l = omega (arith, are.writers e w (inside e l), writer_is_share e (inside e l), count)

    pub readers_inside : (e : ℕ) (w : EdgeOwners) → e < length owners → (get_or owners e w).reader < length ends
    readers_inside e w l = omega (arith, are.readers e w (inside e l), reader_is_share e (inside e l), count)

    pub all_join : (e : ℕ) (w : EdgeOwners) (d : Rings) → e < length owners → RingsJoin (get_or ends (get_or owners e w).writer d) (get_or ends (get_or owners e w).reader d) e
    all_join e w d l =
        subst (λ es. RingsJoin (get_or es (get_or owners e w).writer d) (get_or es (get_or owners e w).reader d) e) (sym taken)
        (subst (λ i. RingsJoin (get_or (ends_in shares) i d) (get_or (ends_in shares) (get_or owners e w).reader d) e) (sym (are.writers e w (inside e l)))
        (subst (λ j. RingsJoin (writer_rings network shares e d) (get_or (ends_in shares) j d) e) (sym (are.readers e w (inside e l))) (graph.joined e d (inside e l))))

    -- these are the ends after all have met
    module _ (now : List Rings) (same : length now ≡ length ends)
        (kept : (k : ℕ) (d : Rings) → k < length ends → Kept (ends_of (get_or ends k d)) (ends_of (get_or now k d)))
        (stay : (k : ℕ) (d : Rings) → k < length ends → SameRings (get_or ends k d) (get_or now k d))
        (places : (k e : ℕ) (d : Rings) → k < length ends → ring_slots (get_or now k d) e ≡ ring_slots (get_or ends k d) e)
        (met : (e : ℕ) (w : EdgeOwners) (d : Rings) → e < length owners →
        Met (ends_of (get_or now (get_or owners e w).writer d)) (ends_of (get_or now (get_or owners e w).reader d))
        (ring_slots (get_or now (get_or owners e w).writer d) e) e)
        (sees : u.view ≡ ends_of) (after : List (Share X Rings t u)) (bodies : map share_nodes after ≡ map share_nodes shares) (put : ends_in after ≡ now) where
      none : EdgeOwners
      none = record { writer = 0; reader = 0 }

      owner : (e : ℕ) → e < length network.edges → e < length owners
      owner e l = omega (arith, l, are.count)

      -- some ends of share s
      some : (s : ℕ) → s < length shares → Rings
      some s l = any_of ends s (omega (arith, l, count))

      capacity_at : (e : ℕ) (d : Rings) → e < length network.edges → ring_slots (get_or now (writer e) d) e ≡ network.capacity
      capacity_at e d l =
          places (writer e) e d (omega (arith, writer_is_share e l, count))
          ∙ ap (λ es. ring_slots (get_or es (writer e) d) e) taken
          ∙ graph.capacity e d l

      -- what holds of the ends that the owner names holds of those of the edge
      of_owner : (Q : Rings → Rings → Type 0) (e : ℕ) (d : Rings) → e < length network.edges →
          Q (get_or now (get_or owners e none).writer d) (get_or now (get_or owners e none).reader d) →
          Q (get_or now (writer e) d) (get_or now (reader e) d)
      of_owner Q e d l q =
          subst (λ i. Q (get_or now i d) (get_or now (reader e) d)) (are.writers e none l)
          (subst (λ j. Q (get_or now (get_or owners e none).writer d) (get_or now j d)) (are.readers e none l) q)

      -- what share s sees now, and what it saw
      now_sees : (s : ℕ) (d : Rings) → s < length shares → view_at after s ≡ ends_of (get_or now s d)
      now_sees s d l =
          view_of_ends after s d (omega (arith, l, same_count shares after bodies))
          ∙ ap (λ (v : Rings → View). v (get_or (ends_in after) s d)) sees
          ∙ ap (λ es. ends_of (get_or es s d)) put

      saw : (s : ℕ) (d : Rings) → s < length shares → view_at shares s ≡ ends_of (get_or ends s d)
      saw s d l =
          view_of_ends shares s d l
          ∙ ap (λ (v : Rings → View). v (get_or (ends_in shares) s d)) sees
          ∙ ap (λ es. ends_of (get_or es s d)) (sym taken)

      met_all : SharesHaveMet network after
      met_all e l =
          let hw = writer_is_share e l in
          let d = some (writer e) hw in
          subst (λ a. Met a (view_at after (reader e)) network.capacity e) (sym (now_sees (writer e) d hw))
          (subst (λ b. Met (ends_of (get_or now (writer e) d)) b network.capacity e) (sym (now_sees (reader e) d (reader_is_share e l)))
          (subst (λ most. Met (ends_of (get_or now (writer e) d)) (ends_of (get_or now (reader e) d)) most e) (capacity_at e d l)
          (of_owner (λ a b. Met (ends_of a) (ends_of b) (ring_slots a e) e) e d l (met e none d (owner e l)))))

      kept_at : (s : ℕ) → s < length shares → Kept (view_at shares s) (view_at after s)
      kept_at s l =
          let d = some s l in
          subst (λ a. Kept a (view_at after s)) (sym (saw s d l))
          (subst (λ b. Kept (ends_of (get_or ends s d)) b) (sym (now_sees s d l)) (kept s d (omega (arith, l, count))))

      same_ends : (s : ℕ) (d : Rings) → s < length shares → SameRings (get_or (ends_in shares) s d) (get_or (ends_in after) s d)
      same_ends s d l =
          subst (λ es. SameRings (get_or es s d) (get_or (ends_in after) s d)) taken
          (subst (λ es. SameRings (get_or ends s d) (get_or es s d)) (sym put) (stay s d (omega (arith, l, count))))

      pub are_met : HaveMetSince network shares after
      are_met = record {
        bodies = bodies;
        ends = same_ends;
        kept = kept_at;
        graph = graph_stays after (same_count shares after bodies) (subst (AreDealt network.share network.nodes) (sym (same_nodes shares after bodies)) graph.deals) same_ends
            (λ s l. (kept_at s l).ends);
        met = met_all;
      }
