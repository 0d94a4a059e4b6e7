-- Setting the next source of a network whose first sources are set.
use Rattle.std.proofs.Common.{◌≡◌, ◌≢◌, ℕ, zero, suc, ◌+◌, ◌<◌, List, [], ◌∷◌, ◌++◌, length, map, get_or, set, Some, refl, sym, ap, subst, ◌∙◌, arith, inl, inr, get_or-set_same, get_or-set_other}
use Rattle.std.proofs.lemmas.Bool.{cases_eq}
use Rattle.std.proofs.lemmas.Option.{slice_get-map, slice_get-get_or, slice_get_within, get_or_from_slice_get}
use Rattle.std.proofs.lemmas.List.{length-map, length-set}
use Rattle.std.specs.List.{slice_get}
use Rattle.std.specs.Option.{option_map}
use Rattle.snesl_values.specs.Inputs.{InputDeclaration}
use Rattle.snesl_grammar.specs.tree.Tree.{ProgramTree}
use Rattle.snesl_types.specs.Typed.{typed_inputs}
use Rattle.snesl_types.specs.declared.typed.TypedProgram.{TypedProgram}
use Rattle.flow_messages.specs.declared.message.Kind.{Kind}
use Rattle.flow_base.specs.Columns.{Columns}
use Rattle.flow_scalar.specs.Streams.{Items}
use Rattle.flow_nodes.specs.inputs.TextSources.{items_in, text_source_state}
use Rattle.flow_nodes.specs.declared.inputs.source.TextSource.{TextSource}
use Rattle.flow_scalar.specs.SourceBehaviour.{source_opening}
use Rattle.flow_nodes.specs.StreamNodes.{a_source, node_behaviour}
use Rattle.flow_networks.specs.declared.edge.Edge.{Edge}
use Rattle.flow_networks.specs.Networks.{state_at, AreOpened}
use Rattle.flow_networks.specs.Replacements.{MayReplace}
use Rattle.flow_nodes.specs.plans.Plans.{Step, source}
use Rattle.flow_nodes.specs.plans.Ports.{kinds_written}
use Rattle.flow_nodes.specs.plans.Layouts.{Placed, all_after, layout, places, places_from, IsNetworkOfPlan}
use Rattle.flow_nodes.specs.plans.Settings.{with_source, IsLaidBut, SourceIsSet}
use Rattle.flow_assembly.specs.Openings.{AllOpen, IsOpening, OpeningsPerform}
use Rattle.snesl_translation.specs.Wires.{type_of_wires}
use Rattle.snesl_translation.specs.Programs.{first_offset, program_plan, unset_cells}
use Rattle.snesl_flatten.specs.Networks.{StreamNodeState, program_steps}
use Rattle.snesl_flatten.specs.Sources.{all_kinds, cells_in, source_columns, source_kind, AreFresh, HasSources}
use Rattle.snesl_flatten.specs.Unset.{unset_steps, AreButSources}
use Rattle.snesl_flatten.proofs.InputSources.{fresh_at}
use Rattle.snesl_flatten.proofs.Sources.{source_step, next_source, next_set, steps_enough}
use Rattle.snesl_flatten.proofs.Ends.{print_stays}

-- the kind of the next source
pub kind_there : (sources : List TextSource) (kinds : List Kind) → map source_kind sources ≡ kinds
    → (n : ℕ) (s : TextSource) → (n < length sources) × (s ≡ get_or sources n s) → slice_get kinds n ≡ Some (source_kind s)
kind_there sources kinds same n s turn =
    ap (λ l. slice_get l n) (sym same) ∙ slice_get-map source_kind sources n ∙ ap (option_map source_kind) (slice_get-get_or sources n s turn.0 ∙ ap Some (sym turn.1))

-- the same by how many columns there are
pub kind_next : (sources : List TextSource) (kinds : List Kind) → map source_kind sources ≡ kinds
    → (done : List TextSource) (s : TextSource) → (length done < length sources) × (s ≡ get_or sources (length done) s)
    → slice_get kinds (length (map cells_in done)) ≡ Some (source_kind s)
kind_next sources kinds same done s turn = ap (slice_get kinds) (length-map done cells_in) ∙ kind_there sources kinds same (length done) s turn

-- it has written nothing
pub fresh_next : (sources : List TextSource) → AreFresh sources → (done : List TextSource) (s : TextSource) → (length done < length sources) × (s ≡ get_or sources (length done) s)
    → text_source_state s ≡ source_opening (items_in s)
fresh_next sources fresh done s turn = fresh_at sources (length done) s fresh (slice_get-get_or sources (length done) s turn.0 ∙ ap Some (sym turn.1))

-- a number that was read from a list that is this one
pub place_is : (ps qs : List ℕ) → ps ≡ qs → (n m v : ℕ) → v ≡ get_or ps n v → n ≡ m → m < length qs → v ≡ get_or qs m 0
place_is ps qs same n m v is on lt = is ∙ (λ i. get_or (same i) (on i) v) ∙ sym (get_or_from_slice_get qs m (get_or qs m v) 0 (slice_get-get_or qs m v lt))

-- each step has a place
places_length : (plan : List Step) (k s : ℕ) (steps : List Step) → length (places_from plan k s steps) ≡ length steps
places_length plan k s [] = refl
places_length plan k s (step ∷ steps) =
    let kinds = kinds_written step.operation in
    ap suc (places_length plan (suc (k + length (all_after plan step.at s kinds))) (s + length kinds) steps)

-- the next source has a place among those of the steps
pub next_within : (text : List ℕ) (program : ProgramTree) (inputs : List InputDeclaration) (columns : Columns) (states : List StreamNodeState) (edges : List Edge)
    → HasSources text program inputs columns states edges
    → (kind : Kind) → slice_get (all_kinds inputs) (length columns) ≡ Some kind → suc (length columns) < length (places (program_steps text program inputs unset_cells))
next_within text program inputs columns states edges has kind there =
    let steps = program_steps text program inputs (source_columns columns) in
    let within = slice_get_within steps (suc (length columns)) _ (next_source text program inputs columns kind there) in
    omega (arith, within, places_length steps 0 0 steps, ap length has.places_are)

-- all sources have places among those of the steps
pub sources_fit : (text : List ℕ) (program : ProgramTree) (inputs : List InputDeclaration) → length (all_kinds inputs) < length (places (program_steps text program inputs unset_cells))
sources_fit text program inputs =
    let steps = program_steps text program inputs unset_cells in
    omega (arith, steps_enough text program inputs unset_cells, places_length steps 0 0 steps)

-- a list with one item set
get_set : {A : Type 0} (xs : List A) (j : ℕ) (y : A) → j < length xs → slice_get (set xs j y) j ≡ Some y
get_set [] j y lt = absurd (omega arith)
get_set (x ∷ xs) zero y lt = refl
get_set (x ∷ xs) (suc j) y lt = get_set xs j y (omega arith)

get_set_other : {A : Type 0} (xs : List A) (j k : ℕ) (y : A) → k ≢ j → slice_get (set xs j y) k ≡ slice_get xs k
get_set_other [] j k y other = refl
get_set_other (x ∷ xs) zero zero y other = absurd (other refl)
get_set_other (x ∷ xs) zero (suc k) y other = refl
get_set_other (x ∷ xs) (suc j) zero y other = refl
get_set_other (x ∷ xs) (suc j) (suc k) y other = get_set_other xs j k y (λ e. other (ap suc e))

module _ (text : List ℕ) (program : ProgramTree) (inputs : List InputDeclaration) (columns : Columns) (states : List StreamNodeState) (edges : List Edge)
    (has : HasSources text program inputs columns states edges)
    (set_law : SourceIsSet node_behaviour states edges) (perform : OpeningsPerform) (items : Items) (there : slice_get (all_kinds inputs) (length columns) ≡ Some items.kind)
    (k : ℕ) (place : k ≡ get_or (places (program_steps text program inputs unset_cells)) (suc (length columns)) 0) where
  abbrev i : ℕ
  i = suc (length columns)

  abbrev steps : List Step
  steps = program_steps text program inputs (source_columns columns)

  -- the step that is to be set
  abbrev step : Step
  step = source_step (first_offset program.expression) items.kind (source_columns columns i)

  abbrev steps_set : List Step
  steps_set = with_source i step items.kind items.cells steps

  -- the state of the source that is put there
  abbrev s : StreamNodeState
  s = (a_source, source_opening items)

  law : let k = get_or (places steps) i 0 in
      MayReplace node_behaviour states k s × IsNetworkOfPlan node_behaviour steps_set (set states k s) edges × (places steps_set ≡ places steps)
      × IsLaidBut k (source items.kind items.cells) steps steps_set
  law =
      set_law steps has.network i step items.kind (source_columns columns i) items.cells (next_source text program inputs columns items.kind there) refl s
      (perform (first_offset program.expression) (source items.kind items.cells) s tt (items, refl, refl, refl))

  at_place : get_or (places steps) i 0 ≡ k
  at_place = ap (λ l. get_or l i 0) has.places_are ∙ sym place

  -- it may stand in place of the node of its step
  pub may_set : MayReplace node_behaviour states k s
  may_set = subst (λ n. MayReplace node_behaviour states n s) at_place law.0

  laid_but : IsLaidBut k (source items.kind items.cells) steps steps_set
  laid_but = subst (λ n. IsLaidBut n (source items.kind items.cells) steps steps_set) at_place law.3

  abbrev placed : Placed
  placed = record laid_but.placed { operation = source items.kind items.cells }

  at_set : (j : ℕ) (other : Placed) → slice_get (layout steps_set) j ≡ Some other → j ≡ k → placed ≡ other
  at_set j other there same =
      let now : slice_get (layout steps_set) j ≡ slice_get (set (layout steps) k placed) j = ap (λ l. slice_get l j) laid_but.laid in
      let here = get_set (layout steps) k placed (slice_get_within (layout steps) k laid_but.placed laid_but.there) in
      let both : Some placed ≡ Some other = sym here ∙ ap (slice_get (set (layout steps) k placed)) (sym same) ∙ sym now ∙ there in
      cc

  -- each node is in the state in which it opens
  all_open : AllOpen (layout steps_set) (set states k s)
  all_open j other there = elim (cases_eq j k) [
    | inl same ↦
        let state : state_at node_behaviour (set states k s) j ≡ s = ap (state_at node_behaviour (set states k s)) same ∙ get_or-set_same states k s node_behaviour.sample may_set.node in
        subst (λ u. IsOpening other.at other.operation u) (sym state) (subst (λ (w : Placed). IsOpening w.at w.operation s) (at_set j other there same) (items, refl, refl, refl))
    | inr ne ↦
        let was : slice_get (layout steps) j ≡ Some other = sym (get_set_other (layout steps) k j placed ne) ∙ ap (λ l. slice_get l j) (sym laid_but.laid) ∙ there in
        subst (λ u. IsOpening other.at other.operation u) (sym (get_or-set_other states k j s node_behaviour.sample ne)) (has.opens j other was)
  ]

  -- and then one source more is set
  pub next_has : AreOpened node_behaviour (set states k s) → HasSources text program inputs (columns ++ items.cells ∷ []) (set states k s) edges
  next_has opened =
      let same : steps_set ≡ program_steps text program inputs (source_columns (columns ++ items.cells ∷ [])) = next_set text program inputs columns items.kind there items.cells in
      record {
        network = subst (λ l. IsNetworkOfPlan node_behaviour l (set states k s) edges) same (subst (λ n. IsNetworkOfPlan node_behaviour steps_set (set states n s) edges) at_place law.1);
        opens = subst (λ l. AllOpen (layout l) (set states k s)) same all_open;
        opened = opened;
        print = print_stays (type_of_wires (program_plan text program inputs unset_cells).given) (first_offset program.expression) states k items may_set has.print;
        places_are = ap places (sym same) ∙ law.2 ∙ has.places_are;
      }

-- Setting a source changes no other node.
pub others_stay : (typed : TypedProgram) (before states : List StreamNodeState) (n k : ℕ) (s : StreamNodeState) → AreButSources typed before states → n < length (all_kinds (typed_inputs typed))
    → k ≡ get_or (places (unset_steps typed)) (suc n) 0 → AreButSources typed before (set states k s)
others_stay typed before states n k s so_far lt place = record {
  nodes = length-set states k s ∙ so_far.nodes;
  others = λ j not_source.
      get_or-set_other states k j s node_behaviour.sample (λ same. not_source (n, lt, same ∙ place)) ∙ so_far.others j not_source;
}
