-- Nodes in their shares: the edges at their ports, and where they stand later.
use Rattle.std.proofs.Common.{◌≡◌, ℕ, ◌<◌, List, length, get_or, sym, ◌∙◌, ap, subst, arith}
use Rattle.std.proofs.lemmas.List.{get_or-map, get_or_default, length-map}
use Rattle.flow_base.specs.Visits.{edge_of}
use Rattle.flow_base.specs.declared.transducer.Transducer.{Ghosts}
use Rattle.flow_networks.specs.declared.edge.Edge.{Edge}
use Rattle.flow_networks.specs.declared.placed.Placed.{Placed}
use Rattle.flow_networks.specs.Edges.{edge_at, in_edge, out_edge}
use Rattle.flow_networks.specs.Networks.{inputs_at, outputs_at}
use Rattle.flow_networks.specs.Places.{states_in}
use Rattle.flow_networks.specs.Skeletons.{FitTogether, AreSamePlaces}
use Rattle.flow_networks.proofs.Seats.{inputs_here, outputs_here, input_here, output_here}
use Rattle.flow_shares.specs.Shares.{inputs_of, outputs_of}
use Rattle.flow_shares.specs.Deals.{share_of, AreDealt}
use Rattle.flow_shares.specs.meetings.Joints.{nodes_at}
use Rattle.flow_shares.proofs.OfMeetings.Parts.{any_of, StandsAt}

module _ {X : Type 0} {t : Ghosts X} (edges : List Edge) (nodes : List (Placed X t)) (fit : FitTogether nodes edges) where
  -- nodes and numbers of nodes
  pub nodes_count : length (states_in nodes) ≡ length nodes
  nodes_count = length-map nodes _

  pub number_is : (k : ℕ) (d : Placed X t) → k < length nodes → (get_or nodes k d).number ≡ k
  number_is k d inside = sym (get_or-map (λ (n : Placed X t). n.number) nodes k d 0 inside) ∙ fit.seated.numbers k inside

  module _ (e : ℕ) (l : e < length edges) where
    pub reader_inside : (edge_at edges e).reader < length nodes
    reader_inside = omega (arith, fit.built.wired.inside e l, nodes_count)

    pub writer_inside : (edge_at edges e).writer < length nodes
    writer_inside = omega (arith, fit.built.wired.forward e l, reader_inside)

    -- each edge stands at its ports of its nodes
    pub reader_stands : (d : Placed X t) → StandsAt (inputs_of (get_or nodes (edge_at edges e).reader d)) (edge_at edges e).reader_port e
    reader_stands d =
        let k = (edge_at edges e).reader in
        let p = (edge_at edges e).reader_port in
        let x = get_or nodes k d in
        let is : x ≡ get_or nodes k x = get_or_default nodes k d x reader_inside in
        let port = fit.built.wired.reader_in e l in
        let place = fit.built.wired.in_edge k p (fit.built.wired.inside e l) port in
        record {
          inside = omega (arith, port, inputs_here nodes k x reader_inside is);
          is = input_here nodes k x reader_inside is edges fit.built.joined fit.seated p port ∙ fit.built.wired.one_in (in_edge edges k p) e place.0 l place.1 place.2;
        }

    pub writer_stands : (d : Placed X t) → StandsAt (outputs_of (get_or nodes (edge_at edges e).writer d)) (edge_at edges e).writer_port e
    writer_stands d =
        let k = (edge_at edges e).writer in
        let q = (edge_at edges e).writer_port in
        let x = get_or nodes k d in
        let is : x ≡ get_or nodes k x = get_or_default nodes k d x writer_inside in
        let port = fit.built.wired.writer_out e l in
        let there : k < length (states_in nodes) = omega (arith, writer_inside, nodes_count) in
        let place = fit.built.wired.out_edge k q there port in
        record {
          inside = omega (arith, port, outputs_here nodes k x writer_inside is);
          is = output_here nodes k x writer_inside is edges fit.built.joined fit.seated q port ∙ fit.built.wired.one_out (out_edge edges k q) e place.0 l place.1 place.2;
        }

  module _ (share : List ℕ) (dealt : List (List (Placed X t))) (deals : AreDealt share nodes dealt) where
    -- node k, in its share
    abbrev pub seat : ℕ → Placed X t → Placed X t
    seat k d = get_or (nodes_at dealt (share_of share k)) (deals.place k) d

    pub seat_reads : (e : ℕ) → e < length edges → (d : Placed X t) → StandsAt (inputs_of (seat (edge_at edges e).reader d)) (edge_at edges e).reader_port e
    seat_reads e l d = subst (λ row. StandsAt row (edge_at edges e).reader_port e) (sym (deals.here (edge_at edges e).reader d (reader_inside e l)).inputs) (reader_stands e l d)

    pub seat_writes : (e : ℕ) → e < length edges → (d : Placed X t) → StandsAt (outputs_of (seat (edge_at edges e).writer d)) (edge_at edges e).writer_port e
    seat_writes e l d = subst (λ row. StandsAt row (edge_at edges e).writer_port e) (sym (deals.here (edge_at edges e).writer d (writer_inside e l)).outputs) (writer_stands e l d)

    -- each port of a node in its share stands at an edge, whose reader or writer lies in that share
    module _ (s i : ℕ) (d : Placed X t) (share_inside : s < length dealt) (node_inside : i < length (nodes_at dealt s)) where
      abbrev node : Placed X t
      node = get_or (nodes_at dealt s) i d

      -- it is this node of the network
      back : (node.number < length nodes) × (share_of share node.number ≡ s) × (deals.place node.number ≡ i)
      back = deals.back s i d share_inside node_inside

      abbrev known : Placed X t
      known = get_or nodes node.number d

      known_is : known ≡ get_or nodes node.number known
      known_is = get_or_default nodes node.number d known back.0

      is_seat : seat node.number d ≡ node
      is_seat = ap (λ r. get_or (nodes_at dealt r) (deals.place node.number) d) back.1 ∙ ap (λ j. get_or (nodes_at dealt s) j d) back.2

      same_inputs : inputs_of node ≡ inputs_of known
      same_inputs = ap (λ (x : Placed X t). inputs_of x) (sym is_seat) ∙ (deals.here node.number d back.0).inputs

      same_outputs : outputs_of node ≡ outputs_of known
      same_outputs = ap (λ (x : Placed X t). outputs_of x) (sym is_seat) ∙ (deals.here node.number d back.0).outputs

      states_inside : node.number < length (states_in nodes)
      states_inside = omega (arith, back.0, nodes_count)

      pub port_reads : (p : ℕ) → p < length (inputs_of node) → let e = edge_of (inputs_of node) p in (e < length edges) × (share_of share (edge_at edges e).reader ≡ s)
      port_reads p port =
          let here : p < inputs_at t.behaviour (states_in nodes) node.number = omega (arith, port, ap length same_inputs, inputs_here nodes node.number known back.0 known_is) in
          let place = fit.built.wired.in_edge node.number p states_inside here in
          let is : edge_of (inputs_of node) p ≡ in_edge edges node.number p = ap (λ row. edge_of row p) same_inputs
          ∙ input_here nodes node.number known back.0 known_is edges fit.built.joined fit.seated p here in
          subst (λ e. (e < length edges) × (share_of share (edge_at edges e).reader ≡ s)) (sym is) (place.0, ap (share_of share) place.1 ∙ back.1)

      pub port_writes : (q : ℕ) → q < length (outputs_of node) → let e = edge_of (outputs_of node) q in (e < length edges) × (share_of share (edge_at edges e).writer ≡ s)
      port_writes q port =
          let here : q < outputs_at t.behaviour (states_in nodes) node.number = omega (arith, port, ap length same_outputs, outputs_here nodes node.number known back.0 known_is) in
          let place = fit.built.wired.out_edge node.number q states_inside here in
          let is : edge_of (outputs_of node) q ≡ out_edge edges node.number q = ap (λ row. edge_of row q) same_outputs
          ∙ output_here nodes node.number known back.0 known_is edges fit.built.joined fit.seated q here in
          subst (λ e. (e < length edges) × (share_of share (edge_at edges e).writer ≡ s)) (sym is) (place.0, ap (share_of share) place.1 ∙ back.1)

    module _ (later : List (List (Placed X t))) (places : (s : ℕ) → s < length dealt → AreSamePlaces (nodes_at dealt s) (nodes_at later s)) where
      -- each node has one place: in its share, and later
      pub same_place : (still : AreDealt share nodes later) (k : ℕ) → k < length nodes → still.place k ≡ deals.place k
      same_place still k l =
          let d = any_of nodes k l in
          let s = share_of share k in
          let inside = (deals.inside k l).0 in
          let same = places s inside in
          let low : still.place k < length (nodes_at dealt s) = omega (arith, (still.inside k l).1, same.count) in
          let was : (get_or (nodes_at dealt s) (still.place k) d).number ≡ k = sym (same.each (still.place k) d low).number ∙ (still.here k d l).number ∙ number_is k d l in
          sym (deals.back s (still.place k) d inside low).2 ∙ ap deals.place was

-- the same nodes later are dealt out alike
module _ {X : Type 0} {t : Ghosts X} (share : List ℕ) (nodes : List (Placed X t)) (dealt later : List (List (Placed X t))) (deals : AreDealt share nodes dealt) where
  module _ (count : length later ≡ length dealt) (places : (s : ℕ) → s < length dealt → AreSamePlaces (nodes_at dealt s) (nodes_at later s)) where
    pub dealt_later : AreDealt share nodes later
    dealt_later = record {
      place = deals.place;
      inside = λ k l. (omega (arith, (deals.inside k l).0, count), omega (arith, (deals.inside k l).1, (places (share_of share k) (deals.inside k l).0).count));
      order = deals.order;
      here = λ k d l.
          let was = deals.here k d l in
          let now = (places (share_of share k) (deals.inside k l).0).each (deals.place k) d (deals.inside k l).1 in
          record { number = now.number ∙ was.number; inputs = now.inputs ∙ was.inputs; outputs = now.outputs ∙ was.outputs; opening = now.opening ∙ was.opening };
      back = λ s i d l low.
          let there : s < length dealt = omega (arith, l, count) in
          let same = places s there in
          let inside : i < length (nodes_at dealt s) = omega (arith, low, same.count) in
          subst (λ k. (k < length nodes) × (share_of share k ≡ s) × (deals.place k ≡ i)) (sym (same.each i d inside).number) (deals.back s i d there inside);
    }
