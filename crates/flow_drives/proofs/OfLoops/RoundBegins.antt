-- Shares to which a graph was just dealt out stand between two rounds: before the first.
use Rattle.std.proofs.Common.{◌≡◌, ℕ, ◌<◌, List, [], length, get_or, refl, sym, ◌∙◌, ap, subst, arith}
use Rattle.std.proofs.lemmas.List.{get_or-map, length-map}
use Rattle.flow_messages.specs.Ends.{View}
use Rattle.flow_messages.specs.declared.ends.Ends.{Ghosts as EndsGhosts}
use Rattle.flow_base.specs.declared.transducer.Transducer.{Ghosts}
use Rattle.flow_networks.specs.declared.edge.Edge.{Edge}
use Rattle.flow_networks.specs.declared.graph.Graph.{Graph}
use Rattle.flow_networks.specs.declared.placed.Placed.{Placed}
use Rattle.flow_networks.specs.Edges.{edge_at}
use Rattle.flow_networks.specs.Graphs.{states_of, edges_of}
use Rattle.flow_networks.specs.Skeletons.{nodes_of, FitTogether}
use Rattle.flow_networks.specs.Networks.{AreOpened}
use Rattle.flow_networks.specs.Places.{placed_state, states_in}
use Rattle.flow_boxes.specs.declared.boxes.Boxes.{Boxes}
use Rattle.flow_boxes.specs.Contents.{Contents, contents, view_of}
use Rattle.flow_boxes.specs.Rounds.{IsLinked}
use Rattle.flow_shares.specs.declared.meetings.owners.EdgeOwners.{EdgeOwners}
use Rattle.flow_shares.specs.meetings.Met.{Met, kept_refl}
use Rattle.flow_shares.specs.meetings.BoxMeetings.{BoxesJoin, box_slots}
use Rattle.flow_shares.specs.Deals.{share_of, AreDealt}
use Rattle.flow_shares.proofs.Stays.{as_given}
use Rattle.flow_shares.specs.declared.share.Share.{Share}
use Rattle.flow_shares.specs.declared.meetings.dealt.Dealt.{Dealt}
use Rattle.flow_shares.specs.meetings.Deals.{nodes_in, ends_in, IsDealt}
use Rattle.flow_shares.specs.meetings.Joints.{views_of, writer_boxes, reader_boxes, BoxesHaveMet, AreStates}
use Rattle.flow_shares.proofs.OfMeetings.Parts.{any_of}
use Rattle.flow_shares.proofs.OfMeetings.Seats.{reader_inside, writer_inside}
use Rattle.flow_shares.proofs.OfMeetings.Meetings.{fresh_shares_start}
use Rattle.flow_shares.proofs.OfMeetings.Views.{sent_at, received_at}
use Rattle.flow_shares.specs.meetings.SharedNetworks.{shared_network}
use Rattle.flow_shares.proofs.OfMeetings.Lists.{total_none}
use Rattle.flow_drives.specs.loops.Standing.{boxes_seen, AreLinked, boxes_of, moved_in, StandBetweenRounds}
use Rattle.flow_drives.proofs.OfLoops.Levels.{seen_at, have_met}
use Rattle.flow_drives.proofs.OfLoops.RoundMeets.{seen_is}
use Rattle.flow_drives.proofs.OfLoops.ShareLists.{count_ends}
use Rattle.flow_drives.proofs.OfLoops.Shares.{views_are}
use Rattle.flow_drives.proofs.OfLoops.Begins.{none_sent, none_received, dealt_fed}

module _ {X : Type 0} {t : Ghosts X} {u : EndsGhosts Boxes} (sees : u.view ≡ view_of) (graph : Graph X t) (threads : ℕ) (share : List ℕ) (capacity : ℕ) (dealt : Dealt X Boxes t u)
    (is : IsDealt BoxesJoin box_slots graph threads share capacity dealt) where
  abbrev nodes : List (Placed X t)
  nodes = nodes_of graph

  abbrev edges : List Edge
  edges = edges_of graph

  abbrev shares : List (Share X Boxes t u)
  shares = dealt.shares.items

  abbrev boxes : List Boxes
  boxes = ends_in shares

  abbrev owners : List EdgeOwners
  owners = dealt.owners.items

  abbrev writer : ℕ → ℕ
  writer e = share_of share (edge_at edges e).writer

  abbrev reader : ℕ → ℕ
  reader e = share_of share (edge_at edges e).reader

  none : EdgeOwners
  none = record { writer = 0; reader = 0 }

  fit : FitTogether nodes edges
  fit = record { built = graph.built; seated = graph.seated }

  as_many : length boxes ≡ length (nodes_in shares)
  as_many = length-map shares (λ (s : Share X Boxes t u). s.ends) ∙ sym (length-map shares (λ (s : Share X Boxes t u). s.nodes.items))

  writes : (e : ℕ) → e < length edges → writer e < length boxes
  writes e l = omega (arith, (is.nodes.inside (edge_at edges e).writer (writer_inside edges nodes fit e l)).0, as_many)

  reads : (e : ℕ) → e < length edges → reader e < length boxes
  reads e l = omega (arith, (is.nodes.inside (edge_at edges e).reader (reader_inside edges nodes fit e l)).0, as_many)

  owner : (e : ℕ) → e < length edges → e < length owners
  owner e l = omega (arith, l, is.owners.count)

  -- some boxes
  some : (e : ℕ) → e < length edges → Boxes
  some e l = any_of boxes (writer e) (writes e l)

  -- what the owner names, the edge names too
  of_edge : (e : ℕ) (l : e < length edges) (Q : Boxes → Boxes → Type 0) →
      Q (get_or boxes (get_or owners e none).writer (some e l)) (get_or boxes (get_or owners e none).reader (some e l)) →
      Q (get_or boxes (writer e) (some e l)) (get_or boxes (reader e) (some e l))
  of_edge e l Q q =
      subst (λ s. Q (get_or boxes s (some e l)) (get_or boxes (reader e) (some e l))) (is.owners.writers e none l)
      (subst (λ s. Q (get_or boxes (get_or owners e none).writer (some e l)) (get_or boxes s (some e l))) (is.owners.readers e none l) q)

  -- and what holds of these boxes holds of those that are seen at the edge
  of_seen : (e : ℕ) (l : e < length edges) (Q : Contents → Contents → Type 0) →
      Q (contents (get_or boxes (writer e) (some e l))) (contents (get_or boxes (reader e) (some e l))) →
      Q (writer_boxes share edges (boxes_seen boxes) e) (reader_boxes share edges (boxes_seen boxes) e)
  of_seen e l Q q =
      subst (λ a. Q a (reader_boxes share edges (boxes_seen boxes) e)) (sym (seen_at boxes (writer e) (some e l) (writes e l)))
      (subst (λ b. Q (contents (get_or boxes (writer e) (some e l))) b) (sym (seen_at boxes (reader e) (some e l) (reads e l))) q)

  linked : AreLinked share edges (boxes_seen boxes) capacity
  linked = record {
    writers = λ e l. omega (arith, writes e l, length-map boxes contents);
    readers = λ e l. omega (arith, reads e l, length-map boxes contents);
    linked = λ e l. of_seen e l (λ a b. IsLinked a b e) (of_edge e l (λ a b. IsLinked (contents a) (contents b) e) (is.ends.joined e none (some e l) (owner e l)));
    capacity = λ e l. of_seen e l (λ a b. a.capacity ≡ capacity) (of_edge e l (λ a b. (contents a).capacity ≡ capacity) (is.ends.places e none (some e l) (owner e l)));
  }

  met_at : (e : ℕ) (w : EdgeOwners) (d : Boxes) → e < length owners →
      Met (view_of (get_or boxes (get_or owners e w).writer d)) (view_of (get_or boxes (get_or owners e w).reader d))
      (contents (get_or boxes (get_or owners e w).writer d)).capacity e
  met_at e w d l =
      subst (λ (v : Boxes → View). Met (v (get_or boxes (get_or owners e w).writer d)) (v (get_or boxes (get_or owners e w).reader d))
      (contents (get_or boxes (get_or owners e w).writer d)).capacity e) sees
      (subst (λ n. Met (u.view (get_or boxes (get_or owners e w).writer d)) (u.view (get_or boxes (get_or owners e w).reader d)) n e) (sym (is.ends.places e w d l)) (is.ends.met e w d l))

  boxes_have_met : BoxesHaveMet share edges (boxes_of shares) capacity
  boxes_have_met =
      subst (λ b. BoxesHaveMet share edges b capacity) (seen_is shares boxes refl)
      (have_met share edges owners is.owners boxes capacity linked boxes refl (λ k d l. kept_refl _) (λ k e d l. refl) is.ends.joined met_at)

  deals : AreDealt share nodes (nodes_in shares)
  deals = as_given share nodes (nodes_in shares) is.nodes

  are_states : AreStates share nodes (nodes_in shares) deals (states_in nodes)
  unfolding deals
  are_states = record {
    count = length-map nodes placed_state;
    each = λ k d l. get_or-map placed_state nodes k d t.behaviour.sample l ∙ ap placed_state (is.nodes.here k d l);
  }

  -- nothing was sent or received on any edge
  empty : (e : ℕ) → e < length edges → ((writer_boxes share edges (boxes_of shares) e).ends.sent e ≡ []) × ((reader_boxes share edges (boxes_of shares) e).ends.received e ≡ [])
  empty e l = (
    ap (λ (v : View). v.sent e) (sym (views_are sees shares (writer e) (omega (arith, writes e l, count_ends shares))))
        ∙ none_sent BoxesJoin box_slots graph threads share capacity dealt is e l,
    ap (λ (v : View). v.received e) (sym (views_are sees shares (reader e) (omega (arith, reads e l, count_ends shares))))
        ∙ none_received BoxesJoin box_slots graph threads share capacity dealt is e l,
  )

  -- in all edges together
  pub dealt_none : moved_in (shared_network graph share capacity) (boxes_of shares) ≡ 0
  dealt_none = total_none _ (length edges)
      (λ e l. omega (
        arith,
        ap length (sent_at share edges (views_of (boxes_of shares)) e l ∙ (empty e l).0),
        ap length (received_at share edges (views_of (boxes_of shares)) e l ∙ (empty e l).1),
      ))

  pub dealt_stand : AreOpened t.behaviour (states_of graph) → StandBetweenRounds (shared_network graph share capacity) shares
  dealt_stand opened = record {
    deals = deals;
    fed = dealt_fed BoxesJoin box_slots graph threads share capacity dealt is;
    met = boxes_have_met;
    states = states_in nodes;
    are_states = are_states;
    reaches = ([], sym (fresh_shares_start t share edges nodes (boxes_of shares) opened empty));
  }
