-- The nodes of a graph that is the network of a plan: the edges at their ports, what these join, and their rows as functions.
use Rattle.std.specs.Prelude.{◌≡◌, ℕ, ◌<◌, List, [], ◌∷◌, length, Option, Some, refl}
use Rattle.std.specs.List.{slice_get}
use Rattle.std.proofs.Common.{sym, ◌∙◌, ap, subst, arith}
use Rattle.std.proofs.lemmas.List.{get_or-map}
use Rattle.std.proofs.lemmas.Option.{slice_get_within}
use Rattle.kahn.specs.Processes.{writes}
use Rattle.flow_messages.specs.Cells.{Cell}
use Rattle.flow_messages.specs.declared.message.Kind.{Kind}
use Rattle.flow_messages.specs.declared.message.Kind.TheVariants.{Unit as UnitKind}
use Rattle.flow_base.specs.Ranges.{AllOf, SignalsOfKind}
use Rattle.flow_base.specs.Columns.{columns, columns_same}
use Rattle.flow_base.specs.Histories.{closed_inside}
use Rattle.flow_base.specs.Transducers.{Behaviour, BehaviourLaws, closed}
use Rattle.flow_nodes.specs.functions.Lists.{bind}
use Rattle.flow_networks.specs.declared.edge.Edge.{Edge}
use Rattle.flow_networks.specs.Edges.{edge_at, in_edge, out_edge}
use Rattle.flow_networks.specs.Networks.{state_at, inputs_at, outputs_at}
use Rattle.flow_networks.specs.Laws.{IsNetwork, IsWithinLimits}
use Rattle.flow_networks.specs.Flows.{bodies_in, bodies_out, HasRow}
use Rattle.flow_nodes.specs.plans.Plans.{Step, made_by}
use Rattle.flow_nodes.specs.plans.Ports.{kinds_written}
use Rattle.flow_nodes.specs.plans.Layouts.{Placed, layout, stream_from, stream_to, Performs, IsNetworkOfPlan}

-- A graph is the network of a plan.
pub record IsPlanned {S : Type 0} (b : Behaviour S) (plan : List Step) (states : List S) (edges : List Edge) : Type 0 where
  pub laws : BehaviourLaws b
  pub net : IsNetwork b states edges
  pub limits : IsWithinLimits b states edges
  pub of : IsNetworkOfPlan b plan states edges

-- the stream that an edge joins
abbrev pub stream_on : List Step → List Edge → ℕ → Option ℕ
stream_on plan edges e = stream_from (layout plan) (edge_at edges e).writer (edge_at edges e).writer_port

all_of_closed : (kind : Kind) (body : List Cell) → SignalsOfKind kind (closed body) → AllOf kind body
all_of_closed kind [] h = tt
all_of_closed kind (x ∷ body) h = (h.0, all_of_closed kind body h.1)

module _ {S : Type 0} {b : Behaviour S} {plan : List Step} {states : List S} {edges : List Edge} (given : IsPlanned b plan states edges) where
  -- edges

  pub writer_there : (e : ℕ) → e < length edges → (edge_at edges e).writer < length states
  writer_there e inside = omega (arith, given.net.wired.forward e inside, given.net.wired.inside e inside)

  pub edge_out : (e : ℕ) → e < length edges → out_edge edges (edge_at edges e).writer (edge_at edges e).writer_port ≡ e
  edge_out e inside =
      let at = given.net.wired.out_edge (edge_at edges e).writer (edge_at edges e).writer_port (writer_there e inside) (given.net.wired.writer_out e inside) in
      given.net.wired.one_out (out_edge edges (edge_at edges e).writer (edge_at edges e).writer_port) e at.0 inside at.1 at.2

  -- the items at both ends of an edge are of one kind
  pub same_kind : (e : ℕ) → e < length edges
      → b.kind_out (state_at b states (edge_at edges e).writer) (edge_at edges e).writer_port ≡ b.kind_in (state_at b states (edge_at edges e).reader) (edge_at edges e).reader_port
  same_kind e inside =
      let k = (edge_at edges e).writer in
      let j = (edge_at edges e).reader in
      let q = (edge_at edges e).writer_port in
      let p = (edge_at edges e).reader_port in
      sym (get_or-map (λ s. b.kind_out s q) states k b.sample UnitKind (writer_there e inside))
      ∙ given.limits.kinds e inside ∙ get_or-map (λ s. b.kind_in s p) states j b.sample UnitKind (given.net.wired.inside e inside)

  -- each node

  module _ (k : ℕ) (placed : Placed) (there : slice_get (layout plan) k ≡ Some placed) where
    pub node_inside : k < length states
    node_inside = omega (arith, slice_get_within (layout plan) k placed there, given.of.laid.nodes)

    pub performs : Performs b placed.operation (state_at b states k)
    performs = given.of.performs k placed there

    inputs_are : b.inputs (state_at b states k) ≡ length placed.reads
    inputs_are = performs.inputs ∙ sym (given.of.laid.reads k placed there)

    ports_in : inputs_at b states k ≡ length placed.reads
    ports_in = get_or-map b.inputs states k b.sample 0 node_inside ∙ inputs_are

    ports_out : outputs_at b states k ≡ length (kinds_written placed.operation)
    ports_out = get_or-map b.outputs states k b.sample 0 node_inside ∙ performs.outputs

    -- the edge at an input port comes from an earlier node, and is of the stream that is read there
    pub edge_to : (p : ℕ) → p < length placed.reads
        → (in_edge edges k p < length edges) × ((edge_at edges (in_edge edges k p)).reader ≡ k) × ((edge_at edges (in_edge edges k p)).reader_port ≡ p)
    edge_to p lt = given.net.wired.in_edge k p node_inside (omega (arith, ports_in))

    pub writer_before : (p : ℕ) → p < length placed.reads → (edge_at edges (in_edge edges k p)).writer < k
    writer_before p lt = let to = edge_to p lt in omega (arith, given.net.wired.forward (in_edge edges k p) to.0, to.1)

    pub stream_in : (p : ℕ) → p < length placed.reads → stream_on plan edges (in_edge edges k p) ≡ slice_get placed.reads p
    stream_in p lt =
        let e = in_edge edges k p in
        let to = edge_to p lt in
        given.of.laid.joins e to.0
        ∙ ap (λ j. stream_to (layout plan) j (edge_at edges e).reader_port) to.1 ∙ ap (stream_to (layout plan) k) to.2
        ∙ ap (λ o. bind o (λ (x : Placed). slice_get x.reads p)) there

    -- and each edge from the node is of the stream that is written at its port
    pub stream_out : (e : ℕ) → (edge_at edges e).writer ≡ k → stream_on plan edges e ≡ slice_get placed.writes (edge_at edges e).writer_port
    stream_out e is =
        let q = (edge_at edges e).writer_port in
        ap (λ j. stream_from (layout plan) j q) is ∙ ap (λ o. bind o (λ (x : Placed). slice_get x.writes q)) there

    pub port_out : (e : ℕ) → e < length edges → (edge_at edges e).writer ≡ k → (edge_at edges e).writer_port < length (kinds_written placed.operation)
    port_out e inside is = omega (arith, given.net.wired.writer_out e inside, ap (outputs_at b states) is, ports_out)

    pub edge_from : (q : ℕ) → q < length (kinds_written placed.operation)
        → (out_edge edges k q < length edges) × ((edge_at edges (out_edge edges k q)).writer ≡ k) × ((edge_at edges (out_edge edges k q)).writer_port ≡ q)
    edge_from q lt = given.net.wired.out_edge k q node_inside (omega (arith, ports_out))

    -- the node's row, as the function of its operation

    module _ (bodies : ℕ → List Cell) where
      abbrev Row : Type 0
      Row = HasRow b (b.opening (state_at b states k)) (bodies_in edges bodies k) (bodies_out edges bodies k)

      abbrev IsMade : Type 0
      IsMade = made_by placed.operation (columns (length placed.reads) (bodies_in edges bodies k)) ≡ Some (columns (length (kinds_written placed.operation)) (bodies_out edges bodies k))

      -- the row from the state in which the node is
      has_row : Row → HasRow b (state_at b states k) (bodies_in edges bodies k) (bodies_out edges bodies k)
      has_row row = subst (λ s. HasRow b s (bodies_in edges bodies k) (bodies_out edges bodies k)) performs.opened row

      pub made_of_row : Row → IsMade
      made_of_row row =
          let s = state_at b states k in
          let has = has_row row in
          ap (λ n. made_by placed.operation (columns n (bodies_in edges bodies k))) (sym inputs_are)
          ∙ ap (made_by placed.operation) (sym (columns_same (b.inputs s) has.row_ins (bodies_in edges bodies k) has.same_ins))
          ∙ (performs.row has.row_ins has.row_outs).0 has.row
          ∙ ap Some (columns_same (b.outputs s) has.row_outs (bodies_out edges bodies k) has.same_outs)
          ∙ ap (λ n. Some (columns n (bodies_out edges bodies k))) performs.outputs

      pub row_of_made : IsMade → Row
      row_of_made made =
          let ins = bodies_in edges bodies k in
          let outs = bodies_out edges bodies k in
          let e = ap (λ n. made_by placed.operation (columns n ins)) inputs_are ∙ made ∙ ap (λ n. Some (columns n outs)) (sym performs.outputs) in
          record {
            row_ins = ins;
            row_outs = outs;
            row = subst (λ s. b.row s ins outs) (sym performs.opened) ((performs.row ins outs).1 e);
            same_ins = λ p lt. refl;
            same_outs = λ q lt. refl;
          }

      -- what goes out by it is of the kinds of the ports
      pub out_of_kind : Row → (q : ℕ) → q < length (kinds_written placed.operation) → AllOf (b.kind_out (state_at b states k) q) (bodies (out_edge edges k q))
      out_of_kind row q lt =
          let s = state_at b states k in
          let kind = b.kind_out s q in
          let has = has_row row in
          let laws = given.laws.opened s performs.opened in
          let run = laws.runs has.row_ins has.row_outs has.row in
          let port : q < b.outputs s = omega (arith, performs.outputs) in
          let sent : writes q run.history ≡ closed (bodies (out_edge edges k q)) = run.writes_all q ∙ closed_inside (b.outputs s) has.row_outs q port ∙ ap closed (has.same_outs q port) in
          all_of_closed kind (bodies (out_edge edges k q)) (subst (SignalsOfKind kind) sent (laws.of_kind run.history run.end run.does q port))
