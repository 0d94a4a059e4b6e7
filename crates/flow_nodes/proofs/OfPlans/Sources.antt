-- Another source in place of one of a plan: its node is another one, and all else in the network stays.
use Rattle.std.specs.Prelude.{◌≡◌, ◌≢◌, ℕ, zero, suc, ◌+◌, ◌<◌, List, [], ◌∷◌, ◌++◌, length, Some, slice_set, slice_index_or, refl}
use Rattle.std.specs.List.{slice_get}
use Rattle.std.proofs.Common.{inl, inr, sym, ◌∙◌, ap, subst, arith}
use Rattle.std.proofs.Math.Path.{ap₂}
use Rattle.std.proofs.lemmas.List.{get_or-map, length-set, get_or-set_same, get_or-set_other}
use Rattle.std.proofs.lemmas.Option.{slice_get_within}
use Rattle.flow_messages.specs.Cells.{Cell}
use Rattle.flow_messages.specs.declared.message.Kind.{Kind}
use Rattle.flow_messages.specs.declared.message.Kind.TheVariants.{Unit as UnitKind}
use Rattle.flow_base.specs.Ports.{ports}
use Rattle.flow_base.specs.Transducers.{Behaviour}
use Rattle.flow_nodes.specs.functions.Lists.{bind}
use Rattle.flow_nodes.proofs.OfFunctions.Options.{some_same}
use Rattle.flow_networks.specs.declared.edge.Edge.{Edge}
use Rattle.flow_networks.specs.Edges.{edge_at}
use Rattle.flow_networks.specs.Networks.{state_at}
use Rattle.flow_networks.specs.Replacements.{MayReplace}
use Rattle.flow_nodes.specs.plans.Plans.{Operation, Step, source}
use Rattle.flow_nodes.specs.plans.Ports.{kinds_read, kinds_written}
use Rattle.flow_nodes.specs.plans.Layouts.{Placed, times, uses, places_after, numbered, all_after, layout_from, places_from, layout, places, stream_from}
use Rattle.flow_nodes.specs.plans.Layouts.{stream_to, ports_from, inputs_from, outputs_from, edges_from, edges_between, Performs, IsNetworkOfPlan}
use Rattle.flow_nodes.specs.plans.Settings.{with_source, IsLaidBut, SourceIsSet}
use Rattle.flow_nodes.proofs.OfPlans.Places.{get_right}
use Rattle.flow_nodes.proofs.OfPlans.Behind.{node_of}

-- lists with one item set

get_set : {A : Type 0} (xs : List A) (j : ℕ) (y : A) → j < length xs → slice_get (slice_set xs j y) j ≡ Some y
get_set [] j y lt = absurd (omega arith)
get_set (x ∷ xs) zero y lt = refl
get_set (x ∷ xs) (suc j) y lt = get_set xs j y (omega arith)

get_set_other : {A : Type 0} (xs : List A) (j k : ℕ) (y : A) → k ≢ j → slice_get (slice_set xs j y) k ≡ slice_get xs k
get_set_other [] j k y other = refl
get_set_other (x ∷ xs) zero zero y other = absurd (other refl)
get_set_other (x ∷ xs) zero (suc k) y other = refl
get_set_other (x ∷ xs) (suc j) zero y other = refl
get_set_other (x ∷ xs) (suc j) (suc k) y other = get_set_other xs j k y (λ e. other (ap suc e))

set_right : {A : Type 0} (xs ys : List A) (j : ℕ) (y : A) → slice_set (xs ++ ys) (length xs + j) y ≡ xs ++ slice_set ys j y
set_right [] ys j y = let same : 0 + j ≡ j = omega arith in ap (λ k. slice_set ys k y) same
set_right (x ∷ xs) ys j y =
    let same : length (x ∷ xs) + j ≡ suc (length xs + j) = omega arith in
    ap (λ k. slice_set (x ∷ (xs ++ ys)) k y) same ∙ ap (λ l. x ∷ l) (set_right xs ys j y)

-- a step that reads the same leaves each stream its uses, and so all that stands after streams

uses_set : (t : ℕ) (steps : List Step) (i : ℕ) (step other : Step) → slice_get steps i ≡ Some step → other.reads ≡ step.reads → uses t (slice_set steps i other) ≡ uses t steps
uses_set t [] i step other at_i same = absurd (cc)
uses_set t (x ∷ steps) zero step other at_i same = ap (λ l. times t l + uses t steps) (same ∙ ap (λ (y : Step). y.reads) (sym (some_same x step at_i)))
uses_set t (x ∷ steps) (suc i) step other at_i same = ap (λ n. times t x.reads + n) (uses_set t steps i step other at_i same)

module _ (plan other : List Step) (same : (t : ℕ) → uses t plan ≡ uses t other) where
  after_same : (at s : ℕ) (kinds : List Kind) → all_after plan at s kinds ≡ all_after other at s kinds
  after_same at s [] = refl
  after_same at s (kind ∷ kinds) = ap₂ (λ n l. places_after at s kind n ++ l) (same s) (after_same at (suc s) kinds)

  layout_same : (s : ℕ) (steps : List Step) → layout_from plan s steps ≡ layout_from other s steps
  layout_same s [] = refl
  layout_same s (step ∷ steps) =
      let kinds = kinds_written step.operation in
      ap₂ (λ l r. node_of step s ∷ (l ++ r)) (after_same step.at s kinds) (layout_same (s + length kinds) steps)

  places_same : (k s : ℕ) (steps : List Step) → places_from plan k s steps ≡ places_from other k s steps
  places_same k s [] = refl
  places_same k s (step ∷ steps) =
      let kinds = kinds_written step.operation in
      let copies = all_after plan step.at s kinds in
      ap (λ l. k ∷ l) (places_same (suc (k + length copies)) (s + length kinds) steps)
      ∙ ap (λ (l : List Placed). k ∷ places_from other (suc (k + length l)) (s + length kinds) steps) (after_same step.at s kinds)

-- a step with another operation that writes the same kinds leaves all nodes where they were
places_set : (plan : List Step) (k s : ℕ) (steps : List Step) (i : ℕ) (step : Step) (operation : Operation) → slice_get steps i ≡ Some step
    → kinds_written operation ≡ kinds_written step.operation
    → places_from plan k s (slice_set steps i (record step { operation = operation })) ≡ places_from plan k s steps
places_set plan k s [] i step operation at_i same = absurd (cc)
places_set plan k s (x ∷ steps) zero step operation at_i same =
    ap (λ kinds. k ∷ places_from plan (suc (k + length (all_after plan step.at s kinds))) (s + length kinds) steps) same
    ∙ ap (λ y. places_from plan k s (y ∷ steps)) (sym (some_same x step at_i))
places_set plan k s (x ∷ steps) (suc i) step operation at_i same =
    let kinds = kinds_written x.operation in
    ap (λ l. k ∷ l) (places_set plan (suc (k + length (all_after plan x.at s kinds))) (s + length kinds) steps i step operation at_i same)

-- Where the node of a step stands, and what the layout is with another operation there.
record Stands (plan : List Step) (k s : ℕ) (steps : List Step) (i : ℕ) (step : Step) (operation : Operation) : Type 0 where
  place : ℕ
  placed : Placed
  number : slice_index_or (places_from plan k s steps) i 0 ≡ k + place
  there : slice_get (layout_from plan s steps) place ≡ Some placed
  same_operation : placed.operation ≡ step.operation
  is_set : layout_from plan s (slice_set steps i (record step { operation = operation })) ≡ slice_set (layout_from plan s steps) place (record placed { operation = operation })

stands : (plan : List Step) (k s : ℕ) (steps : List Step) (i : ℕ) (step : Step) (operation : Operation) → slice_get steps i ≡ Some step
    → kinds_written operation ≡ kinds_written step.operation → Stands plan k s steps i step operation
stands plan k s [] i step operation at_i same = absurd (cc)
stands plan k s (x ∷ steps) zero step operation at_i same = subst (λ y. Stands plan k s (y ∷ steps) zero step operation) (sym (some_same x step at_i)) here
  where
    here : Stands plan k s (step ∷ steps) zero step operation
    here = record {
      place = zero;
      placed = node_of step s;
      number = omega arith;
      there = refl;
      same_operation = refl;
      is_set = ap (λ kinds.
          record { at = step.at; operation = operation; reads = step.reads; writes = numbered s kinds } ∷ (all_after plan step.at s kinds ++ layout_from plan (s + length kinds) steps)) same;
    }
stands plan k s (x ∷ steps) (suc i) step operation at_i same =
    let kinds = kinds_written x.operation in
    let first = node_of x s in
    let copies = all_after plan x.at s kinds in
    let rest = layout_from plan (s + length kinds) steps in
    let others = stands plan (suc (k + length copies)) (s + length kinds) steps i step operation at_i same in
    record {
      place = suc (length copies + others.place);
      placed = others.placed;
      number = others.number ∙ (let e : suc (k + length copies) + others.place ≡ k + suc (length copies + others.place) = omega arith in e);
      there = get_right copies rest (length copies + others.place) others.place refl ∙ others.there;
      same_operation = others.same_operation;
      is_set = ap (λ l. first ∷ (copies ++ l)) others.is_set ∙ ap (λ l. first ∷ l) (sym (set_right copies rest others.place (record others.placed { operation = operation })));
    }

-- the streams at ports stay

module _ (nodes : List Placed) (j : ℕ) (placed : Placed) (operation : Operation) (there : slice_get nodes j ≡ Some placed) where
  abbrev changed : Placed
  changed = record placed { operation = operation }

  changed_there : slice_get (slice_set nodes j changed) j ≡ Some changed
  changed_there = get_set nodes j changed (slice_get_within nodes j placed there)

  from_same : (k q : ℕ) → stream_from (slice_set nodes j changed) k q ≡ stream_from nodes k q
  from_same k q = elim (ports k j) [
    | inl is ↦
        ap (λ i. stream_from (slice_set nodes j changed) i q) is ∙ ap (λ o. bind o (λ (x : Placed). slice_get x.writes q)) changed_there
        ∙ sym (ap (λ i. stream_from nodes i q) is ∙ ap (λ o. bind o (λ (x : Placed). slice_get x.writes q)) there)
    | inr other ↦ ap (λ o. bind o (λ (x : Placed). slice_get x.writes q)) (get_set_other nodes j k changed other)
  ]

  to_same : (k p : ℕ) → stream_to (slice_set nodes j changed) k p ≡ stream_to nodes k p
  to_same k p = elim (ports k j) [
    | inl is ↦
        ap (λ i. stream_to (slice_set nodes j changed) i p) is ∙ ap (λ o. bind o (λ (x : Placed). slice_get x.reads p)) changed_there
        ∙ sym (ap (λ i. stream_to nodes i p) is ∙ ap (λ o. bind o (λ (x : Placed). slice_get x.reads p)) there)
    | inr other ↦ ap (λ o. bind o (λ (x : Placed). slice_get x.reads p)) (get_set_other nodes j k changed other)
  ]

-- and so do the edges between them

inputs_stay : (k : ℕ) (nodes : List Placed) (j : ℕ) (placed : Placed) (operation : Operation) → slice_get nodes j ≡ Some placed
    → inputs_from k (slice_set nodes j (record placed { operation = operation })) ≡ inputs_from k nodes
inputs_stay k [] j placed operation there = refl
inputs_stay k (x ∷ nodes) zero placed operation there = ap (λ (y : Placed). ports_from k zero y.reads ++ inputs_from (suc k) nodes) (sym (some_same x placed there))
inputs_stay k (x ∷ nodes) (suc j) placed operation there = ap (λ l. ports_from k zero x.reads ++ l) (inputs_stay (suc k) nodes j placed operation there)

outputs_stay : (k : ℕ) (nodes : List Placed) (j : ℕ) (placed : Placed) (operation : Operation) → slice_get nodes j ≡ Some placed
    → outputs_from k (slice_set nodes j (record placed { operation = operation })) ≡ outputs_from k nodes
outputs_stay k [] j placed operation there = refl
outputs_stay k (x ∷ nodes) zero placed operation there = ap (λ (y : Placed). ports_from k zero y.writes ++ outputs_from (suc k) nodes) (sym (some_same x placed there))
outputs_stay k (x ∷ nodes) (suc j) placed operation there = ap (λ l. ports_from k zero x.writes ++ l) (outputs_stay (suc k) nodes j placed operation there)

edges_stay : (nodes : List Placed) (j : ℕ) (placed : Placed) (operation : Operation) → slice_get nodes j ≡ Some placed
    → edges_between (slice_set nodes j (record placed { operation = operation })) ≡ edges_between nodes
edges_stay nodes j placed operation there = ap₂ edges_from (inputs_stay zero nodes j placed operation there) (outputs_stay zero nodes j placed operation there)

module _ {S : Type 0} (b : Behaviour S) (states : List S) (edges : List Edge) (plan : List Step) (of : IsNetworkOfPlan b plan states edges) (i : ℕ)
    (step : Step) (kind : Kind) (before cells : List Cell) (at_i : slice_get plan i ≡ Some step) (is_source : step.operation ≡ source kind before)
    (s : S) (does : Performs b (source kind cells) s) where
  abbrev operation : Operation
  operation = source kind cells

  stand : Stands plan 0 0 plan i step operation
  stand = stands plan 0 0 plan i step operation at_i (sym (ap kinds_written is_source))

  module _ (j : ℕ) (placed : Placed) (there : slice_get (layout plan) j ≡ Some placed) (was_source : placed.operation ≡ source kind before) where
    inside : j < length states
    inside = omega (arith, slice_get_within (layout plan) j placed there, of.laid.nodes)

    did : Performs b (source kind before) (state_at b states j)
    did = subst (λ o. Performs b o (state_at b states j)) was_source (of.performs j placed there)

    may_replace : MayReplace b states j s
    may_replace = record {
      node = inside;
      opened = does.opened;
      inputs = does.inputs ∙ sym did.inputs ∙ sym (get_or-map b.inputs states j b.sample 0 inside);
      outputs = does.outputs ∙ sym did.outputs ∙ sym (get_or-map b.outputs states j b.sample 0 inside);
      kinds_in = λ p lt. absurd (omega (arith, lt, get_or-map b.inputs states j b.sample 0 inside, did.inputs));
      kinds_out = λ q lt.
          let port : q < b.outputs (state_at b states j) = omega (arith, lt, get_or-map b.outputs states j b.sample 0 inside) in
          let same : b.outputs s ≡ b.outputs (state_at b states j) = does.outputs ∙ sym did.outputs in
          some_same (b.kind_out s q) (b.kind_out (state_at b states j) q) (sym (does.kinds_out q (omega (arith, port, same))) ∙ did.kinds_out q port)
          ∙ sym (get_or-map (λ t. b.kind_out t q) states j b.sample UnitKind inside);
    }

    module _ (plan' : List Step) (laid : layout plan' ≡ slice_set (layout plan) j (record placed { operation = operation })) where
      abbrev new : Placed
      new = record placed { operation = operation }

      abbrev states' : List S
      states' = slice_set states j s

      -- a node of the other plan is the new one, or one that was there
      is_new : (k : ℕ) (x : Placed) → slice_get (layout plan') k ≡ Some x → k ≡ j → x ≡ new
      is_new k x e is = some_same x new (sym e ∙ ap (λ l. slice_get l k) laid ∙ ap (slice_get (slice_set (layout plan) j new)) is ∙ changed_there (layout plan) j placed operation there)

      was_there : (k : ℕ) (x : Placed) → slice_get (layout plan') k ≡ Some x → k ≢ j → slice_get (layout plan) k ≡ Some x
      was_there k x e other = sym (get_set_other (layout plan) j k new other) ∙ ap (λ l. slice_get l k) (sym laid) ∙ e

      does_at : (k : ℕ) (x : Placed) → slice_get (layout plan') k ≡ Some x → Performs b x.operation (state_at b states' k)
      does_at k x e = elim (ports k j) [
        | inl is ↦
            let there_now : state_at b states' k ≡ s = ap (state_at b states') is ∙ get_or-set_same states j s b.sample inside in
            subst (λ t. Performs b x.operation t) (sym there_now) (subst (λ (y : Placed). Performs b y.operation s) (sym (is_new k x e is)) does)
        | inr other ↦ subst (λ t. Performs b x.operation t) (sym (get_or-set_other states j k s b.sample other)) (of.performs k x (was_there k x e other))
      ]

      reads_at : (k : ℕ) (x : Placed) → slice_get (layout plan') k ≡ Some x → length x.reads ≡ length (kinds_read x.operation)
      reads_at k x e = elim (ports k j) [
        | inl is ↦ subst (λ (y : Placed). length y.reads ≡ length (kinds_read y.operation)) (sym (is_new k x e is)) (of.laid.reads j placed there ∙ ap (λ o. length (kinds_read o)) was_source)
        | inr other ↦ of.laid.reads k x (was_there k x e other)
      ]

      network : IsNetworkOfPlan b plan' states' edges
      network = record {
        laid = record {
          nodes = length-set states j s ∙ of.laid.nodes ∙ sym (length-set (layout plan) j new) ∙ ap length (sym laid);
          reads = reads_at;
          joins = λ e l.
              let edge = edge_at edges e in
              ap (λ nodes. stream_from nodes edge.writer edge.writer_port) laid ∙ from_same (layout plan) j placed operation there edge.writer edge.writer_port
              ∙ of.laid.joins e l
              ∙ sym (ap (λ nodes. stream_to nodes edge.reader edge.reader_port) laid ∙ to_same (layout plan) j placed operation there edge.reader edge.reader_port);
          edges_are = of.laid.edges_are ∙ sym (ap edges_between laid ∙ edges_stay (layout plan) j placed operation there);
        };
        performs = does_at;
      }

  set : let k = slice_index_or (places plan) i 0 in
      MayReplace b states k s × IsNetworkOfPlan b (with_source i step kind cells plan) (slice_set states k s) edges × (places (with_source i step kind cells plan) ≡ places plan)
      × IsLaidBut k (source kind cells) plan (with_source i step kind cells plan)
  set =
      let plan' = with_source i step kind cells plan in
      let j = stand.place in
      let was = stand.same_operation ∙ is_source in
      let same : (t : ℕ) → uses t plan' ≡ uses t plan = λ t. uses_set t plan i step (record step { operation = operation }) at_i refl in
      let laid : layout plan' ≡ slice_set (layout plan) j (record stand.placed { operation = operation }) = layout_same plan' plan same 0 plan' ∙ stand.is_set in
      let stay : places plan' ≡ places plan = places_same plan' plan same 0 0 plan' ∙ places_set plan 0 0 plan i step operation at_i (sym (ap kinds_written is_source)) in
      let is : j ≡ slice_index_or (places plan) i 0 = omega (arith, stand.number) in
      subst (λ k. MayReplace b states k s × IsNetworkOfPlan b plan' (slice_set states k s) edges × (places plan' ≡ places plan) × IsLaidBut k operation plan plan') is
      (may_replace j stand.placed stand.there was, network j stand.placed stand.there was plan' laid, stay, record { placed = stand.placed; there = stand.there; laid = laid })

pub source_is_set : {S : Type 0} (b : Behaviour S) (states : List S) (edges : List Edge) → SourceIsSet b states edges
source_is_set b states edges plan of i step kind before cells at_i is_source s does = set b states edges plan of i step kind before cells at_i is_source s does
