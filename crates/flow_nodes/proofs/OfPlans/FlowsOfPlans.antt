-- Where a plan runs, its streams are a lawful flow of its network.
use Rattle.std.specs.Prelude.{◌≡◌, ℕ, suc, ◌+◌, ◌<◌, List, [], ◌∷◌, ◌++◌, length, replicate, Option, Some, None, option_map, refl}
use Rattle.std.specs.List.{slice_get}
use Rattle.std.proofs.Common.{inl, inr, sym, ◌∙◌, ap, subst, arith, append_assoc, append-nil}
use Rattle.std.proofs.lemmas.List.{length_push, length-append}
use Rattle.flow_messages.specs.Cells.{Cell}
use Rattle.flow_messages.specs.declared.message.Kind.{Kind}
use Rattle.flow_base.specs.Ranges.{AllOf}
use Rattle.flow_base.specs.Columns.{Columns, columns}
use Rattle.flow_base.specs.Ports.{ports}
use Rattle.flow_base.specs.Transducers.{Behaviour, BehaviourLaws}
use Rattle.flow_nodes.specs.functions.Lists.{bind}
use Rattle.flow_nodes.proofs.OfFunctions.Options.{bind_gives, some_same}
use Rattle.flow_nodes.proofs.OfFunctions.Decoding.{items_forth}
use Rattle.flow_networks.specs.declared.edge.Edge.{Edge}
use Rattle.flow_networks.specs.Edges.{edge_at, in_edge, out_edge}
use Rattle.flow_networks.specs.Networks.{state_at}
use Rattle.flow_networks.specs.Laws.{IsNetwork, IsWithinLimits}
use Rattle.flow_networks.specs.Flows.{bodies_in, bodies_out, HasRow, IsLawfulFlow}
use Rattle.flow_nodes.specs.plans.Plans.{Step, made_by, streams_at, run}
use Rattle.flow_nodes.specs.plans.Ports.{kinds_written}
use Rattle.flow_nodes.specs.plans.Layouts.{Placed, layout, layout_from, all_after, AreCarried}
use Rattle.flow_nodes.specs.plans.PlanFlows.{PlanIsFlow}
use Rattle.flow_nodes.proofs.OfPlans.Places.{get_left, get_right, get_there, columns_are, replicate_columns, each_length, each_place, each_more, numbered_place}
use Rattle.flow_nodes.proofs.OfPlans.Written.{written_length}
use Rattle.flow_nodes.proofs.OfPlans.Behind.{node_of, IsCopy, all_after_copies}
use Rattle.flow_nodes.proofs.OfPlans.Nodes.{IsPlanned, stream_on, stream_out, port_out, edge_from, edge_out, edge_to, writer_before, writer_there, same_kind, performs, row_of_made, out_of_kind}
use Rattle.flow_nodes.proofs.OfPlans.FlowsBelow.{IsCarried, AreCarriedBelow, carried_next, read_at, one_read, copied, after_all}

-- what a run ends with begins with what it began with
run_keeps : (steps : List Step) (streams all : Columns) → run steps streams ≡ Some all → (more : Columns) × (all ≡ streams ++ more)
run_keeps [] streams all e = ([], sym (some_same streams all e) ∙ sym (append-nil streams))
run_keeps (step ∷ steps) streams all e =
    let read = bind_gives (streams_at step.reads streams) _ e in
    let written = bind_gives (made_by step.operation read.0) _ read.2 in
    let others = run_keeps steps (streams ++ written.0) all written.2 in
    (written.0 ++ others.0, others.1 ∙ append_assoc streams written.0 others.0)

-- the list, where there is one
abbrev the_body : Option (List Cell) → List Cell
the_body None = []
the_body (Some body) = body

module _ {S : Type 0} {b : Behaviour S} {plan : List Step} {states : List S} {edges : List Edge} (given : IsPlanned b plan states edges) (all : Columns) where
  -- what each edge is to carry
  abbrev bodies : ℕ → List Cell
  bodies e = the_body (bind (stream_on plan edges e) (slice_get all))

  body_is : (e : ℕ) (body : List Cell) → bind (stream_on plan edges e) (slice_get all) ≡ Some body → bodies e ≡ body
  body_is e body is = ap the_body is

  carried : (e : ℕ) (body : List Cell) → bind (stream_on plan edges e) (slice_get all) ≡ Some body → IsCarried plan edges bodies all e
  carried e body is = is ∙ ap Some (sym (body_is e body is))

  abbrev Row : ℕ → Type 0
  Row k = HasRow b (b.opening (state_at b states k)) (bodies_in edges bodies k) (bodies_out edges bodies k)

  -- what holds as far as some node: edges carry the streams that they join, and rows hold over them
  pub record Holds (k : ℕ) : Type 0 where
    pub below : AreCarriedBelow plan edges bodies all k
    pub rows : (j : ℕ) → j < k → Row j

  rows_next : (k : ℕ) → ((j : ℕ) → j < k → Row j) → Row k → (j : ℕ) → j < suc k → Row j
  rows_next k rows row j lt = elim (ports j k) [
    | inl is ↦ subst Row (sym is) row
    | inr other ↦ rows j (omega (arith, lt, other))
  ]

  -- the kind of the items of an edge
  abbrev kind_into : ℕ → Kind
  kind_into e = b.kind_in (state_at b states (edge_at edges e).reader) (edge_at edges e).reader_port

  -- what an edge carries is of its kind, where the row of the node that it comes from holds
  edge_of_kind : (e j : ℕ) → e < length edges → (edge_at edges e).writer ≡ j → Row j → AllOf (kind_into e) (bodies e)
  edge_of_kind e j inside is row =
      let q = (edge_at edges e).writer_port in
      let node = get_there (layout plan) j (omega (arith, writer_there given e inside, is, given.of.laid.nodes)) in
      let all_of : AllOf (b.kind_out (state_at b states j) q) (bodies (out_edge edges j q)) = out_of_kind given j node.0 node.1 bodies row q (port_out given j node.0 node.1 e inside is) in
      let same_edge : out_edge edges j q ≡ e = ap (λ i. out_edge edges i q) (sym is) ∙ edge_out given e inside in
      let kinds : b.kind_out (state_at b states j) q ≡ kind_into e = ap (λ i. b.kind_out (state_at b states i) q) (sym is) ∙ same_kind given e inside in
      subst (λ kind. AllOf kind (bodies e)) kinds (subst (λ f. AllOf (b.kind_out (state_at b states j) q) (bodies f)) same_edge all_of)

  -- a copy

  module _ (k : ℕ) (placed : Placed) (there : slice_get (layout plan) k ≡ Some placed) (copy : IsCopy placed) (holds : Holds k) where
    abbrev came_in : List Cell
    came_in = bodies (in_edge edges k 0)

    single : 0 < length placed.reads
    single = one_read given bodies all k placed there copy holds.below

    came_of_kind : AllOf copy.kind came_in
    came_of_kind =
        let e = in_edge edges k 0 in
        let to = edge_to given k placed there 0 single in
        let one : AllOf (kind_into e) came_in = edge_of_kind e (edge_at edges e).writer to.0 refl (holds.rows (edge_at edges e).writer (writer_before given k placed there 0 single)) in
        let port : 0 < b.inputs (state_at b states k) = omega (arith, (performs given k placed there).inputs, ap length copy.kinds_read) in
        let kind_is : b.kind_in (state_at b states k) 0 ≡ copy.kind =
        some_same (b.kind_in (state_at b states k) 0) copy.kind (sym ((performs given k placed there).kinds_in 0 port) ∙ ap (λ l. slice_get l 0) copy.kinds_read) in
        subst (λ kind. AllOf kind came_in) (ap (λ j. b.kind_in (state_at b states j) (edge_at edges e).reader_port) to.1 ∙ ap (b.kind_in (state_at b states k)) to.2 ∙ kind_is) one

    copy_row : Row k
    copy_row =
        let ins = bodies_in edges bodies k in
        let outs = bodies_out edges bodies k in
        let each_out : (q : ℕ) → q < copy.count → outs q ≡ came_in = λ q lt.
        let from = edge_from given k placed there q (omega (arith, lt, copy.kinds_written)) in
        body_is (out_edge edges k q) came_in (copied given bodies all k placed there copy holds.below (out_edge edges k q) from.0 from.1) in
        row_of_made given k placed there bodies (
        ap (λ l. made_by placed.operation (columns (length l) ins)) copy.reads ∙ copy.made came_in
        ∙ ap (option_map (λ xs. replicate copy.count xs)) (items_forth copy.kind came_in came_of_kind)
        ∙ ap Some (replicate_columns copy.count outs came_in each_out) ∙ ap (λ n. Some (columns n outs)) (sym copy.kinds_written))

    after_copy : Holds (suc k)
    after_copy = record {
      below = carried_next plan edges bodies all k holds.below (λ e inside is. carried e came_in (copied given bodies all k placed there copy holds.below e inside is));
      rows = rows_next k holds.rows copy_row;
    }

  -- a step: what it reads, and what it writes between the streams before it and more after them

  module _ (step : Step) (streams read written more : Columns) (reads : streams_at step.reads streams ≡ Some read)
      (made : made_by step.operation read ≡ Some written) (all_are : all ≡ (streams ++ written) ++ more) where
    abbrev node : Placed
    node = node_of step (length streams)

    writes_long : length written ≡ length (kinds_written step.operation)
    writes_long = written_length step.operation read written made

    reads_all : streams_at step.reads all ≡ Some read
    reads_all =
        let there : all ≡ streams ++ (written ++ more) = all_are ∙ append_assoc streams written more in
        subst (λ l. streams_at step.reads l ≡ Some read) (sym there)
        (each_more (slice_get streams) (slice_get (streams ++ (written ++ more))) (λ n body e. get_left streams (written ++ more) n body e) step.reads read reads)

    writes_there : (q : ℕ) (body : List Cell) → slice_get written q ≡ Some body → slice_get all (length streams + q) ≡ Some body
    writes_there q body e =
        ap (λ l. slice_get l (length streams + q)) all_are
        ∙ get_left (streams ++ written) more (length streams + q) body (get_right streams written (length streams + q) q refl ∙ e)

    module _ (k : ℕ) (there : slice_get (layout plan) k ≡ Some node) (holds : Holds k) where
      node_writes : (e : ℕ) → e < length edges → (edge_at edges e).writer ≡ k → (body : List Cell) → slice_get written (edge_at edges e).writer_port ≡ Some body
          → bind (stream_on plan edges e) (slice_get all) ≡ Some body
      node_writes e inside is body at_port =
          let q = (edge_at edges e).writer_port in
          ap (λ o. bind o (slice_get all)) (stream_out given k node there e is ∙ numbered_place (length streams) (kinds_written step.operation) q (port_out given k node there e inside is))
          ∙ writes_there q body at_port

      step_carries : (e : ℕ) → e < length edges → (edge_at edges e).writer ≡ k → IsCarried plan edges bodies all e
      step_carries e inside is =
          let w = get_there written (edge_at edges e).writer_port (omega (arith, port_out given k node there e inside is, writes_long)) in
          carried e w.0 (node_writes e inside is w.0 w.1)

      step_row : Row k
      step_row =
          let ins = bodies_in edges bodies k in
          let outs = bodies_out edges bodies k in
          let n_reads : length read ≡ length step.reads = each_length (slice_get streams) step.reads read reads in
          let read_is : read ≡ columns (length read) ins = columns_are read ins (λ p lt.
          let port : p < length step.reads = omega (arith, lt, n_reads) in
          sym (each_place (slice_get all) step.reads read reads_all p port) ∙ read_at given bodies all k node there holds.below p port) in
          let written_is : written ≡ columns (length written) outs = columns_are written outs (λ q lt.
          let from = edge_from given k node there q (omega (arith, lt, writes_long)) in
          let e = out_edge edges k q in
          let w = get_there written q lt in
          let at_port : slice_get written (edge_at edges e).writer_port ≡ Some w.0 = ap (slice_get written) from.2 ∙ w.1 in
          w.1 ∙ ap Some (sym (body_is e w.0 (node_writes e from.0 from.1 w.0 at_port)))) in
          row_of_made given k node there bodies (
          ap (λ n. made_by step.operation (columns n ins)) (sym n_reads) ∙ ap (made_by step.operation) (sym read_is) ∙ made
          ∙ ap Some written_is ∙ ap (λ n. Some (columns n outs)) writes_long)

      after_step : Holds (suc k)
      after_step = record { below = carried_next plan edges bodies all k holds.below step_carries; rows = rows_next k holds.rows step_row }

  -- so it holds as far as the last node, where it holds before the node of some step from which the plan runs
  holds_all : (steps : List Step) (before : List Placed) (s : ℕ) (streams : Columns) → layout plan ≡ before ++ layout_from plan s steps → s ≡ length streams
      → run steps streams ≡ Some all → Holds (length before) → Holds (length (layout plan))
  holds_all [] before s streams is long ran holds = subst (λ (l : List Placed). Holds (length l)) (sym (is ∙ append-nil before)) holds
  holds_all (step ∷ steps) before s streams is long ran holds =
      let k = length before in
      let kinds = kinds_written step.operation in
      let read = bind_gives (streams_at step.reads streams) (λ r. bind (made_by step.operation r) (λ w. run steps (streams ++ w))) ran in
      let written = bind_gives (made_by step.operation read.0) (λ w. run steps (streams ++ w)) read.2 in
      let more = run_keeps steps (streams ++ written.0) all written.2 in
      let placed = node_of step (length streams) in
      let copies = all_after plan step.at s kinds in
      let rest = layout_from plan (s + length kinds) steps in
      let longer : s + length kinds ≡ length (streams ++ written.0) = omega (arith, length-append streams written.0, long, written_length step.operation read.0 written.0 written.1) in
      let place : layout plan ≡ before ++ (placed ∷ (copies ++ rest)) = is ∙ ap (λ n. before ++ (node_of step n ∷ (copies ++ rest))) long in
      let there : slice_get (layout plan) k ≡ Some placed = ap (λ l. slice_get l k) place ∙ get_right before (placed ∷ (copies ++ rest)) k 0 (omega arith) in
      let longer_front = before ++ placed ∷ [] in
      let is_more : layout plan ≡ longer_front ++ (copies ++ rest) = place ∙ sym (append_assoc before (placed ∷ []) (copies ++ rest)) in
      let first : Holds (length longer_front) =
      subst Holds (let e : suc k ≡ length longer_front = omega (arith, length_push before placed) in e) (after_step step streams read.0 written.0 more.0 read.1 written.1 more.1 k there holds) in
      let behind = after_all given Holds after_copy longer_front copies rest (all_after_copies plan step.at s kinds) is_more first in
      holds_all steps (longer_front ++ copies) (s + length kinds) (streams ++ written.0) (is_more ∙ sym (append_assoc longer_front copies rest)) longer written.2 behind

  plan_carries : run plan [] ≡ Some all → (bodies : ℕ → List Cell) × IsLawfulFlow b states edges bodies × AreCarried plan all edges bodies
  plan_carries ran =
      let holds = holds_all plan [] 0 [] refl refl ran (record { below = λ e inside lt. absurd (omega (arith, lt)); rows = λ j lt. absurd (omega (arith, lt)) }) in (
        bodies,
        λ k lt. holds.rows k (omega (arith, lt, given.of.laid.nodes)),
        λ e inside. holds.below e inside (omega (arith, writer_there given e inside, given.of.laid.nodes)),
      )

pub plan_is_flow : {S : Type 0} (b : Behaviour S) (laws : BehaviourLaws b) (states : List S) (edges : List Edge) → IsNetwork b states edges
    → IsWithinLimits b states edges → PlanIsFlow b states edges
plan_is_flow b laws states edges net limits plan of all ran = plan_carries (record { laws = laws; net = net; limits = limits; of = of }) all ran
