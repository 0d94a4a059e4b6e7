-- Where the network of a plan has a lawful flow, the plan runs, to the streams of which this flow is made.
use Rattle.std.specs.Prelude.{◌≡◌, ℕ, suc, ◌+◌, ◌<◌, List, [], ◌∷◌, ◌++◌, length, replicate, Some, option_map, refl}
use Rattle.std.specs.List.{slice_get}
use Rattle.std.proofs.Common.{sym, ◌∙◌, ap, subst, arith, append_assoc, append-nil}
use Rattle.std.proofs.lemmas.List.{length_push, length-append}
use Rattle.flow_messages.specs.Cells.{Cell}
use Rattle.flow_base.specs.Columns.{Columns, columns}
use Rattle.flow_base.specs.Transducers.{Behaviour, BehaviourLaws}
use Rattle.flow_nodes.specs.functions.Lists.{bind}
use Rattle.flow_nodes.specs.functions.Decoded.{items_of_kind}
use Rattle.flow_nodes.proofs.OfFunctions.Edges.{columns_length}
use Rattle.flow_nodes.proofs.OfFunctions.Options.{map_gives}
use Rattle.flow_nodes.proofs.OfFunctions.Decoding.{items_back}
use Rattle.flow_networks.specs.declared.edge.Edge.{Edge}
use Rattle.flow_networks.specs.Edges.{edge_at, in_edge, out_edge}
use Rattle.flow_networks.specs.Laws.{IsNetwork, IsWithinLimits}
use Rattle.flow_networks.specs.Flows.{bodies_in, bodies_out, IsLawfulFlow}
use Rattle.flow_nodes.specs.plans.Plans.{Step, made_by, streams_at, run}
use Rattle.flow_nodes.specs.plans.Ports.{kinds_written}
use Rattle.flow_nodes.specs.plans.Layouts.{Placed, layout, layout_from, all_after, AreCarried}
use Rattle.flow_nodes.specs.plans.PlanFlows.{FlowIsPlan}
use Rattle.flow_nodes.proofs.OfPlans.Places.{get_right, columns_place, columns_replicate, each_columns, numbered_place}
use Rattle.flow_nodes.proofs.OfPlans.Behind.{node_of, IsCopy, all_after_copies}
use Rattle.flow_nodes.proofs.OfPlans.Nodes.{IsPlanned, stream_out, port_out, edge_out, node_inside, made_of_row, writer_there}
use Rattle.flow_nodes.proofs.OfPlans.FlowsBelow.{AreCarriedBelow, carried_next, carried_more, read_at, copied, after_all}

module _ {S : Type 0} {b : Behaviour S} {plan : List Step} {states : List S} {edges : List Edge} (given : IsPlanned b plan states edges)
    (bodies : ℕ → List Cell) (flow : IsLawfulFlow b states edges bodies) where
  made_at : (k : ℕ) (placed : Placed) → slice_get (layout plan) k ≡ Some placed
      → made_by placed.operation (columns (length placed.reads) (bodies_in edges bodies k)) ≡ Some (columns (length (kinds_written placed.operation)) (bodies_out edges bodies k))
  made_at k placed there = made_of_row given k placed there bodies (flow k (node_inside given k placed there))

  -- the edge at the output port that an edge comes from is that edge
  out_is : (k e : ℕ) → e < length edges → (edge_at edges e).writer ≡ k → bodies_out edges bodies k (edge_at edges e).writer_port ≡ bodies e
  out_is k e inside is = ap (λ j. bodies (out_edge edges j (edge_at edges e).writer_port)) (sym is) ∙ ap bodies (edge_out given e inside)

  -- what goes out of a copy is what came in
  copy_writes : (k : ℕ) (placed : Placed) → slice_get (layout plan) k ≡ Some placed → (copy : IsCopy placed) → (q : ℕ) → q < copy.count
      → bodies_out edges bodies k q ≡ bodies (in_edge edges k 0)
  copy_writes k placed there copy q lt =
      let ins = bodies_in edges bodies k in
      let outs = bodies_out edges bodies k in
      let made : option_map (λ xs. replicate copy.count xs) (items_of_kind copy.kind (ins 0)) ≡ Some (columns copy.count outs) =
      sym (copy.made (ins 0)) ∙ ap (λ l. made_by placed.operation (columns (length l) ins)) (sym copy.reads) ∙ made_at k placed there ∙ ap (λ n. Some (columns n outs)) copy.kinds_written in
      let g = map_gives (λ xs. replicate copy.count xs) (items_of_kind copy.kind (ins 0)) made in
      let same : ins 0 ≡ g.0 = (items_back copy.kind (ins 0) g.0 g.1).0 in
      columns_replicate copy.count outs g.0 g.2 q lt ∙ sym same

  after_copy : (streams : Columns) (k : ℕ) (placed : Placed) → slice_get (layout plan) k ≡ Some placed → IsCopy placed → AreCarriedBelow plan edges bodies streams k
      → AreCarriedBelow plan edges bodies streams (suc k)
  after_copy streams k placed there copy below = carried_next plan edges bodies streams k below (λ e inside is.
      let port = port_out given k placed there e inside is in
      copied given bodies streams k placed there copy below e inside is
      ∙ ap Some (sym (copy_writes k placed there copy (edge_at edges e).writer_port (omega (arith, port, copy.kinds_written))) ∙ out_is k e inside is))

  -- what the step at node k writes
  abbrev written : Step → ℕ → Columns
  written step k = columns (length (kinds_written step.operation)) (bodies_out edges bodies k)

  module _ (step : Step) (s k : ℕ) (there : slice_get (layout plan) k ≡ Some (node_of step s)) (streams : Columns) (long : length streams ≡ s)
      (below : AreCarriedBelow plan edges bodies streams k) where
    -- the step runs on the streams so far
    step_reads : streams_at step.reads streams ≡ Some (columns (length step.reads) (bodies_in edges bodies k))
    step_reads = each_columns streams step.reads (bodies_in edges bodies k) (read_at given bodies streams k (node_of step s) there below)

    step_runs : (steps : List Step) (all : Columns) → run steps (streams ++ written step k) ≡ Some all → run (step ∷ steps) streams ≡ Some all
    step_runs steps all ran =
        ap (λ o. bind o (λ read. bind (made_by step.operation read) (λ w. run steps (streams ++ w)))) step_reads
        ∙ ap (λ o. bind o (λ w. run steps (streams ++ w))) (made_at k (node_of step s) there) ∙ ran

    -- and what it writes are the streams of the next numbers
    after_step : AreCarriedBelow plan edges bodies (streams ++ written step k) (suc k)
    after_step = carried_next plan edges bodies (streams ++ written step k) k (carried_more plan edges bodies streams (written step k) k below) (λ e inside is.
        let kinds = kinds_written step.operation in
        let q = (edge_at edges e).writer_port in
        let port : q < length kinds = port_out given k (node_of step s) there e inside is in
        ap (λ o. bind o (slice_get (streams ++ written step k))) (stream_out given k (node_of step s) there e is ∙ numbered_place s kinds q port)
        ∙ get_right streams (written step k) (s + q) q (omega (arith, long)) ∙ columns_place (length kinds) (bodies_out edges bodies k) q port ∙ ap Some (out_is k e inside is))

  -- after the nodes before some step, the steps from there on run
  runs_from : (steps : List Step) (before : List Placed) (s : ℕ) (streams : Columns) → layout plan ≡ before ++ layout_from plan s steps → length streams ≡ s
      → AreCarriedBelow plan edges bodies streams (length before) → (all : Columns) × (run steps streams ≡ Some all) × AreCarried plan all edges bodies
  runs_from [] before s streams is long below =
      let nodes : length (layout plan) ≡ length before = ap length (is ∙ append-nil before) in
      (streams, refl, λ e inside. below e inside (omega (arith, writer_there given e inside, given.of.laid.nodes, nodes)))
  runs_from (step ∷ steps) before s streams is long below =
      let k = length before in
      let kinds = kinds_written step.operation in
      let placed = node_of step s in
      let out = written step k in
      let copies = all_after plan step.at s kinds in
      let rest = layout_from plan (s + length kinds) steps in
      let there : slice_get (layout plan) k ≡ Some placed = ap (λ l. slice_get l k) is ∙ get_right before (placed ∷ (copies ++ rest)) k 0 (omega arith) in
      let more = before ++ placed ∷ [] in
      let is_more : layout plan ≡ more ++ (copies ++ rest) = is ∙ sym (append_assoc before (placed ∷ []) (copies ++ rest)) in
      let first : AreCarriedBelow plan edges bodies (streams ++ out) (length more) =
      subst (AreCarriedBelow plan edges bodies (streams ++ out)) (let e : suc k ≡ length more = omega (arith, length_push before placed) in e) (after_step step s k there streams long below) in
      let behind = after_all given (AreCarriedBelow plan edges bodies (streams ++ out)) (after_copy (streams ++ out)) more copies rest (all_after_copies plan step.at s kinds) is_more first in
      let longer : length (streams ++ out) ≡ s + length kinds = omega (arith, length-append streams out, long, columns_length (length kinds) (bodies_out edges bodies k)) in
      let others = runs_from steps (more ++ copies) (s + length kinds) (streams ++ out) (is_more ∙ sym (append_assoc more copies rest)) longer behind in
      (others.0, step_runs step s k there streams long below steps others.0 others.1, others.2)

pub flow_is_plan : {S : Type 0} (b : Behaviour S) (laws : BehaviourLaws b) (states : List S) (edges : List Edge) → IsNetwork b states edges
    → IsWithinLimits b states edges → FlowIsPlan b states edges
flow_is_plan b laws states edges net limits plan of bodies flow =
    runs_from (record { laws = laws; net = net; limits = limits; of = of }) bodies flow plan [] 0 [] refl refl (λ e inside lt. absurd (omega (arith, lt)))
