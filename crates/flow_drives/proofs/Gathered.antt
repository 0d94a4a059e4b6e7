-- A graph that was gathered of shares at rest over boxes is sound, and no node can step there: it is where a maximal run
-- of its network ends.
use Rattle.std.proofs.Common.{◌≡◌, ℕ, zero, suc, ◌<◌, ◌≤◌, ◌⊎◌, inl, inr, true, List, [], ◌∷◌, length, map, get_or, refl, sym, ap, subst, arith}
use Rattle.std.proofs.Math.Path.{fun_ext}
use Rattle.std.proofs.lemmas.Bool.{cases_lt}
use Rattle.std.proofs.lemmas.List.{get_or_past, length-map, get_or-map}
use Rattle.flow_messages.specs.Ends.{View}
use Rattle.flow_base.specs.declared.transducer.Transducer.{Ghosts}
use Rattle.flow_networks.specs.declared.edge.Edge.{Edge}
use Rattle.flow_networks.specs.declared.graph.Graph.{Graph}
use Rattle.flow_networks.specs.Edges.{edge_at}
use Rattle.flow_networks.specs.Graphs.{states_of, edges_of}
use Rattle.flow_networks.specs.Places.{states_in}
use Rattle.flow_networks.specs.Shapes.{IsSameNetwork}
use Rattle.flow_boxes.specs.declared.boxes.Boxes.{Boxes}
use Rattle.flow_boxes.specs.Contents.{Contents, contents, view_of}
use Rattle.flow_boxes.specs.Rounds.{IsLinked}
use Rattle.flow_shares.specs.meetings.BoxMeetings.{BoxesJoin}
use Rattle.flow_shares.specs.Deals.{share_of}
use Rattle.flow_shares.specs.meetings.Joints.{no_contents, boxes_at, views_of, writer_boxes, end_view, BoxesHaveMet}
use Rattle.flow_shares.specs.meetings.EndTheorems.{EdgesHaveMet}
use Rattle.flow_shares.specs.meetings.SharedNetworks.{SharedNetwork, moves_by}
use Rattle.flow_shares.proofs.OfMeetings.Calm.{all_met}
use Rattle.flow_drives.specs.loops.Standing.{boxes_seen}
use Rattle.flow_drives.proofs.OfLoops.RoundGathers.{HaveComeToRest}
use Rattle.flow_drives.specs.declared.all_ends.SharedEnds.{SharedEnds}
use Rattle.flow_drives.specs.declared.all_ends.AllEnds.{AllEnds}
use Rattle.flow_drives.specs.declared.all_ends.AllEnds.TheVariants.{Whole, Shared}
use Rattle.flow_drives.specs.Drives.{EndsMaximalRun, IsSoundAt, RestsAt}
use Rattle.flow_drives.specs.Edges.{seen_by, traffic_by, AreJoined, traffic_in, moves_over, AreThere}
use Rattle.flow_drives.proofs.Rests.{run_sound, run_rests}

-- what is seen of boxes is what is seen of their ends
seen_of : (boxes : List Boxes) (s : ℕ) → views_of (map contents boxes) s ≡ seen_by view_of boxes s
seen_of [] s = refl
seen_of (b ∷ boxes) zero = refl
seen_of (b ∷ boxes) (suc s) = seen_of boxes s

all_seen : (boxes : List Boxes) → views_of (map contents boxes) ≡ seen_by view_of boxes
all_seen boxes = fun_ext (seen_of boxes)

-- boxes that have met are joined
module _ (share : List ℕ) (edges : List Edge) (boxes : List Boxes) (most : ℕ) (met : BoxesHaveMet share edges (boxes_seen boxes) most) where
  abbrev writer : ℕ → ℕ
  writer e = share_of share (edge_at edges e).writer

  abbrev reader : ℕ → ℕ
  reader e = share_of share (edge_at edges e).reader

  -- a share that has an end of an edge is among the shares
  there : (s e : ℕ) → ((boxes_at (boxes_seen boxes) s).ends.writes e ≡ true) ⊎ ((boxes_at (boxes_seen boxes) s).ends.reads e ≡ true) → s < length boxes
  there s e has = at has (cases_lt s (length (boxes_seen boxes)))
    where
      at : ((boxes_at (boxes_seen boxes) s).ends.writes e ≡ true) ⊎ ((boxes_at (boxes_seen boxes) s).ends.reads e ≡ true) →
          (s < length (boxes_seen boxes)) ⊎ (length (boxes_seen boxes) ≤ s) → s < length boxes
      at has (inl l) = omega (arith, l, length-map boxes contents)
      at (inl writes) (inr above) = absurd (cc (ap (λ (b : Contents). b.ends.writes e) (get_or_past (boxes_seen boxes) s no_contents above), writes))
      at (inr reads) (inr above) = absurd (cc (ap (λ (b : Contents). b.ends.reads e) (get_or_past (boxes_seen boxes) s no_contents above), reads))

  module _ (e : ℕ) (l : e < length edges) where
    writer_there : writer e < length boxes
    writer_there = there (writer e) e (inl (met.linked e l).writes)

    reader_there : reader e < length boxes
    reader_there = there (reader e) e (inr (met.linked e l).reads)

    joined_at : (d : Boxes) → BoxesJoin (get_or boxes (writer e) d) (get_or boxes (reader e) d) e
    joined_at d =
        subst (λ (a : Contents). IsLinked a (contents (get_or boxes (reader e) d)) e) (get_or-map contents boxes (writer e) d no_contents writer_there)
        (subst (λ (b : Contents). IsLinked (writer_boxes share edges (boxes_seen boxes) e) b e) (get_or-map contents boxes (reader e) d no_contents reader_there) (met.linked e l))

  boxes_met : EdgesHaveMet share edges (views_of (boxes_seen boxes)) most
  boxes_met = all_met most share edges (boxes_seen boxes) met

  boxes_joined : AreJoined view_of share edges boxes BoxesJoin most
  boxes_joined = record {
    writers = writer_there;
    readers = reader_there;
    joined = λ e d l. joined_at e l d;
    met = subst (λ v. EdgesHaveMet share edges v most) (all_seen boxes) boxes_met;
  }

-- the ends of these edges are joined, where they are in boxes
abbrev BoxesThere : List Edge → AllEnds → Type 0
BoxesThere edges (Whole table) = Unit {0}
BoxesThere edges (Shared boxes) = AreJoined view_of boxes.share.items edges boxes.ends.items BoxesJoin boxes.capacity

-- what holds of the ends in a network holds of the edges that a graph gathered there has
module _ {X : Type 0} {t : Ghosts X} (network : SharedNetwork t) (share : List ℕ) (edges : List Edge) (capacity : ℕ)
    (same_share : share ≡ network.share) (same_edges : edges ≡ network.edges) (same_capacity : capacity ≡ network.capacity) where
  pub of_lines : (Q : List ℕ → List Edge → ℕ → Type 0) → Q network.share network.edges network.capacity → Q share edges capacity
  of_lines Q q = subst (λ s. Q s edges capacity) (sym same_share) (subst (λ e. Q network.share e capacity) (sym same_edges) (subst (λ n. Q network.share network.edges n) (sym same_capacity) q))

-- over boxes
module _ {X : Type 0} {t : Ghosts X} (network : SharedNetwork t) (graph : Graph X t) (shared : SharedEnds Boxes)
    (same : IsSameNetwork t.behaviour (states_in network.nodes) network.edges (states_of graph) (edges_of graph))
    (rested : HaveComeToRest network (states_of graph) (boxes_seen shared.ends.items))
    (share : shared.share.items ≡ network.share) (capacity : shared.capacity ≡ network.capacity) where
  abbrev boxes : List Boxes
  boxes = shared.ends.items

  abbrev traffic : View
  traffic = traffic_in (edges_of graph) (Shared shared)

  boxes_there : AreJoined view_of shared.share.items (edges_of graph) boxes BoxesJoin shared.capacity
  boxes_there =
      of_lines network shared.share.items (edges_of graph) shared.capacity share same.same_edges capacity (λ s e n. AreJoined view_of s e boxes BoxesJoin n)
      (boxes_joined network.share network.edges boxes network.capacity rested.met)

  pub are_there : AreThere (edges_of graph) (Shared shared)
  are_there = record {
    whole = λ table is. absurd (cc is);
    shared = λ other is. ∣ subst (λ all_ends. BoxesThere (edges_of graph) all_ends) is boxes_there ∣₁;
  }

  pub run : EndsMaximalRun t.behaviour network.capacity (states_in network.nodes) network.edges (states_of graph) traffic
  run = of_lines network shared.share.items (edges_of graph) shared.capacity share same.same_edges capacity
      (λ s e n. EndsMaximalRun t.behaviour network.capacity (states_in network.nodes) network.edges (states_of graph) (traffic_by view_of s e boxes))
      (subst (λ v. EndsMaximalRun t.behaviour network.capacity (states_in network.nodes) network.edges (states_of graph) (end_view network.share network.edges v)) (all_seen boxes)
      (rested.reaches.0, record { run = rested.reaches.1; rest = rested.rest }))

  -- as many messages went over the edges of the graph
  pub boxes_moved : (Q : ℕ → Type 0) → Q (moves_by network (views_of (boxes_seen boxes))) → Q (moves_over (edges_of graph) traffic)
  boxes_moved Q q =
      of_lines network shared.share.items (edges_of graph) shared.capacity share same.same_edges capacity (λ s e n. Q (moves_over e (traffic_by view_of s e boxes)))
      (subst (λ v. Q (moves_by network v)) (all_seen boxes) q)

  pub sound : IsSoundAt t.behaviour (states_of graph) (edges_of graph) traffic
  sound = run_sound t.behaviour network.capacity (states_in network.nodes) network.edges (states_of graph) (edges_of graph) traffic same run network.fit.built.wired

  pub rests : RestsAt t.behaviour (states_of graph) (edges_of graph) shared.capacity traffic
  rests = subst (λ n. RestsAt t.behaviour (states_of graph) (edges_of graph) n traffic) (sym capacity)
      (run_rests t.behaviour network.capacity (states_in network.nodes) network.edges (states_of graph) (edges_of graph) traffic same run)
