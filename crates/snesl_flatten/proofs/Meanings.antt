-- What the network of a program means, once its sources hold the values of inputs.
use Rattle.std.proofs.Common.{◌≡◌, ℕ, suc, ◌<◌, true, List, [], ◌∷◌, length, Option, Some, None, refl, sym, ap, subst, ◌∙◌, arith}
use Rattle.std.proofs.Math.Logic.{∥∥₁_elim}
use Rattle.std.proofs.Math.Path.{ap₂}
use Rattle.std.proofs.Props.{props}
use Rattle.std.proofs.lemmas.List.{get_or-map}
use Rattle.std.specs.List.{slice_get}
use Rattle.snesl_data.specs.declared.fault.FaultKind.{FaultKind}
use Rattle.snesl_data.specs.Types.{Ty}
use Rattle.snesl_data.specs.Values.{Value, HasType}
use Rattle.snesl_values.specs.Inputs.{InputDeclaration, Environment, FitDeclarations}
use Rattle.snesl_data.specs.Text.{text as text_of_value}
use Rattle.snesl_grammar.specs.tree.Tree.{ProgramTree}
use Rattle.snesl_evaluation.specs.Answer.{Answer, gives, faults}
use Rattle.snesl_evaluation.specs.Eval.{program_value}
use Rattle.snesl_types.specs.Programs.{HasTyping}
use Rattle.snesl_types.specs.Soundness.{Safe, TypedProgramsAreSound}
use Rattle.kahn.specs.Configurations.{IsComplete}
use Rattle.flow_messages.specs.Cells.{Cell}
use Rattle.flow_messages.specs.Ends.{View}
use Rattle.flow_base.specs.Columns.{Columns}
use Rattle.flow_values.specs.Shapes.{is_a}
use Rattle.flow_values.specs.Flats.{width, flat}
use Rattle.flow_nodes.specs.functions.Lists.{bind}
use Rattle.flow_nodes.specs.functions.Made.{columns_of_values}
use Rattle.flow_nodes.proofs.OfFunctions.Options.{some_same}
use Rattle.flow_nodes.specs.StreamNodes.{node_behaviour, text_in}
use Rattle.flow_networks.specs.declared.edge.Edge.{Edge}
use Rattle.flow_networks.specs.Edges.{in_edge}
use Rattle.flow_networks.specs.Networks.{network_of, configuration_of, inputs_at}
use Rattle.flow_networks.specs.Laws.{IsNetwork}
use Rattle.flow_networks.specs.Flows.{IsLawfulFlow}
use Rattle.flow_networks.specs.FlowTheorems.{EndedIsLawful}
use Rattle.flow_nodes.specs.plans.Plans.{Step, streams_at, run}
use Rattle.flow_nodes.specs.plans.Layouts.{Placed, layout, stream_to, AreCarried}
use Rattle.flow_nodes.specs.plans.PlanFlows.{PlanIsFlow, FlowIsPlan}
use Rattle.flow_nodes.proofs.OfPlans.Places.{each_place, columns_place}
use Rattle.flow_drives.specs.Texts.{last_text}
use Rattle.snesl_flatten.specs.texts.PrintedTexts.{PrintsAtTheEnd, PrintTells}
use Rattle.snesl_translation.specs.Wires.{Wires, type_of_wires, numbers_of}
use Rattle.snesl_translation.specs.Programs.{first_offset, program_plan, unset_cells, columns_of, cells_of, PlansMean}
use Rattle.snesl_flatten.specs.Networks.{program_steps, NetworkMeans, StreamNodeState}
use Rattle.snesl_flatten.specs.Sources.{HasSources}
use Rattle.snesl_flatten.proofs.Sources.{value, given_is}
use Rattle.snesl_flatten.proofs.Ends.{print_placed, print_there}
use Rattle.snesl_flatten.proofs.InputValues.{typed_is}

module _ (text : List ℕ) (program : ProgramTree) (environment : Environment) where
  -- the steps of the program whose inputs have these values
  abbrev steps_with : List InputDeclaration → List Step
  steps_with inputs = program_steps text program inputs (cells_of inputs environment)

  -- the streams of the program's value
  abbrev given_with : List InputDeclaration → Wires
  given_with inputs = (program_plan text program inputs (cells_of inputs environment)).given

  -- the plan runs, and its streams carry this value
  abbrev RunsTo : List InputDeclaration → Ty → Value → Type 0
  RunsTo inputs t v =
      (type_of_wires (given_with inputs) ≡ t)
      × ((streams : Columns) × (run (steps_with inputs) [] ≡ Some streams) × (streams_at (numbers_of (given_with inputs)) streams ≡ Some (columns_of_values t (v ∷ []))))

  -- the plan runs just where the program has a value
  abbrev PlanMeans : List InputDeclaration → Ty → Type 0
  PlanMeans inputs t =
      ((v : Value) → program_value text program environment ≡ gives v → RunsTo inputs t v)
      × ((kind : FaultKind) (at : ℕ) → program_value text program environment ≡ faults kind at → run (steps_with inputs) [] ≡ None)

  module _ (inputs : List InputDeclaration) (t : Ty) (fits : FitDeclarations program.dialect inputs environment) (typing : HasTyping text program inputs t) where
    fits_typing : FitDeclarations program.dialect typing.0.inputs environment
    fits_typing = subst (λ declarations. FitDeclarations program.dialect declarations environment) (sym typing.2) fits

    plan_means : PlansMean → PlanMeans inputs t
    plan_means planned = subst (λ declarations. PlanMeans declarations t) typing.2 (planned text program typing.0 t environment typing.1 fits_typing)

    -- a value of the program is one of its type
    value_is : TypedProgramsAreSound → (v : Value) → program_value text program environment ≡ gives v → is_a t v ≡ true
    value_is sound v is =
        typed_is program.dialect t v (subst (Safe (λ x. HasType program.dialect x t)) is (sound text program typing.0 t environment typing.1 fits_typing))

module _ (text : List ℕ) (program : ProgramTree) (inputs : List InputDeclaration) (environment : Environment) (states : List StreamNodeState) (edges : List Edge)
    (is_net : IsNetwork node_behaviour states edges) (set : HasSources text program inputs (columns_of inputs environment) states edges) where
  abbrev plan : List Step
  plan = program_steps text program inputs (cells_of inputs environment)

  abbrev w : Wires
  w = (value text program inputs).given

  -- what comes over an edge of the Print is the stream that it reads there
  print_reads : (streams columns : Columns) (bodies : ℕ → List Cell) → streams_at (numbers_of w) streams ≡ Some columns → AreCarried plan streams edges bodies
      → (k : ℕ) → suc k ≡ length states → (p : ℕ) → p < width (type_of_wires w) → slice_get columns p ≡ Some (bodies (in_edge edges k p))
  print_reads streams columns bodies read carried k last p lt =
      let placed : Placed = print_placed (first_offset program.expression) (type_of_wires w) (numbers_of w) in
      let there : slice_get (layout plan) k ≡ Some placed = print_there text program inputs (cells_of inputs environment) k (last ∙ set.network.laid.nodes) in
      let inside : k < length states = omega (arith, last) in
      let ports : inputs_at node_behaviour states k ≡ width (type_of_wires w) =
      get_or-map node_behaviour.inputs states k node_behaviour.sample 0 inside ∙ (set.network.performs k placed there).inputs in
      let many : length (numbers_of w) ≡ width (type_of_wires w) = set.network.laid.reads k placed there in
      let e = is_net.wired.in_edge k p inside (omega (arith, ports, lt)) in
      let joined = set.network.laid.joins (in_edge edges k p) e.0 ∙ ap₂ (λ j q. stream_to (layout plan) j q) e.1 e.2 ∙ ap (λ o. bind o (λ node. slice_get node.reads p)) there in
      sym (each_place (slice_get streams) (numbers_of w) columns read p (omega (arith, many, lt)))
      ∙ ap (λ o. bind o (slice_get streams)) (sym joined) ∙ carried (in_edge edges k p) e.0

  module _ (t : Ty) (typed : ∥ HasTyping text program inputs t ∥₁) (fits : FitDeclarations program.dialect inputs environment) (planned : PlansMean) (sound : TypedProgramsAreSound)
      (forth : PlanIsFlow node_behaviour states edges) (back : FlowIsPlan node_behaviour states edges) (lawful : EndedIsLawful node_behaviour states edges) (tells : PrintTells states edges) where
    means : HasTyping text program inputs t → PlanMeans text program environment inputs t
    means typing = plan_means text program environment inputs t fits typing planned

    flows : (v : Value) → program_value text program environment ≡ gives v → (bodies : ℕ → List Cell) × IsLawfulFlow node_behaviour states edges bodies
    flows v is = by_run (run plan []) refl
      where
        by_run : (o : Option Columns) → run plan [] ≡ o → (bodies : ℕ → List Cell) × IsLawfulFlow node_behaviour states edges bodies
        by_run (Some streams) runs = let flow = forth plan set.network streams runs in (flow.0, flow.1)
        by_run None runs =
            absurd (∥∥₁_elim typed (λ x y. absurd x) (λ typing.
            let goes = (means typing).0 v is in
            let both : Some goes.1.0 ≡ None = sym goes.1.1 ∙ runs in
            cc))

    faults_then : (kind : FaultKind) (at : ℕ) → program_value text program environment ≡ faults kind at → (bodies : ℕ → List Cell) → IsLawfulFlow node_behaviour states edges bodies → ⊥
    faults_then kind at is bodies flow =
        ∥∥₁_elim typed (λ x y. absurd x) (λ typing.
        let ran = back plan set.network bodies flow in
        let both : Some ran.0 ≡ None = sym ran.1 ∙ (means typing).1 kind at is in
        cc)

    module _ (states' : List StreamNodeState) (view : View) (same : length states' ≡ length states)
        (all : IsComplete node_behaviour.process (network_of node_behaviour states edges) (configuration_of node_behaviour states' view)) where
      -- the text is that of the value
      text_is : (v : Value) → program_value text program environment ≡ gives v → HasTyping text program inputs t → last_text text_in states' ≡ text_of_value v
      text_is v is typing =
          let goes = (means typing).0 v is in
          let given : (program_plan text program inputs (cells_of inputs environment)).given ≡ w = given_is text program inputs (cells_of inputs environment) in
          let type_is : type_of_wires w ≡ t = ap type_of_wires (sym given) ∙ goes.0 in
          let unset : type_of_wires (program_plan text program inputs unset_cells).given ≡ t = ap type_of_wires (given_is text program inputs unset_cells) ∙ type_is in
          let print : PrintsAtTheEnd t (first_offset program.expression) states = subst (λ ty. PrintsAtTheEnd ty (first_offset program.expression) states) unset set.print in
          let flow = lawful (configuration_of node_behaviour states' view) all in
          let ran = back plan set.network flow.0 flow.1 in
          let one : goes.1.0 ≡ ran.0 = some_same goes.1.0 ran.0 (sym goes.1.1 ∙ ran.1) in
          let read : streams_at (numbers_of w) ran.0 ≡ Some (columns_of_values t (v ∷ [])) =
          ap₂ (λ ws streams. streams_at (numbers_of ws) streams) (sym given) (sym one) ∙ goes.1.2 in
          tells t (first_offset program.expression) print set.opened states' view same all flow.0 flow.2 v (value_is text program environment inputs t fits typing sound v is)
          (λ p lt. some_same (flow.0 (in_edge edges print.0 p)) (flat t 0 (v ∷ []) p)
          (sym (print_reads ran.0 (columns_of_values t (v ∷ [])) flow.0 read ran.2 print.0 print.1 p (omega (arith, ap width type_is, lt))) ∙ columns_place (width t) (flat t 0 (v ∷ [])) p lt))

      prints : (v : Value) × (program_value text program environment ≡ gives v) × (last_text text_in states' ≡ text_of_value v)
      prints = by_answer (program_value text program environment) refl
        where
          by_answer : (a : Answer Value) → program_value text program environment ≡ a
              → (v : Value) × (program_value text program environment ≡ gives v) × (last_text text_in states' ≡ text_of_value v)
          by_answer (gives v) is = (v, is, ∥∥₁_elim typed (hlevel props) (text_is v is))
          by_answer (faults kind at) is = let flow = lawful (configuration_of node_behaviour states' view) all in absurd (faults_then kind at is flow.0 flow.1)

    -- the network has a lawful flow just where the program has a value, whose text is then printed
    pub network_means : NetworkMeans text program environment states edges
    network_means = record {
      flows = flows;
      faults_then = faults_then;
      prints = prints;
    }
