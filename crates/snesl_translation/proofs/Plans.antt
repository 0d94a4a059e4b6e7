-- The plan of a program means its value.
use Rattle.std.specs.Prelude.{◌≡◌, ℕ, zero, suc, ◌+◌, ◌<◌, Bool, true, ◌&&◌, List, [], ◌∷◌, ◌++◌, length, get_or, Option, Some, None, refl}
use Rattle.std.proofs.Common.{arith, sym, ap, ◌∙◌, subst, length-append, append_assoc, append-nil}
use Rattle.std.proofs.lemmas.List.{get_or_append_left, get_or-append-add}
use Rattle.snesl_data.specs.declared.dialect.Dialect.{Dialect}
use Rattle.snesl_data.specs.declared.fault.FaultKind.{FaultKind}
use Rattle.snesl_data.specs.Types.{Ty, int, bool, pair, vec, seq}
use Rattle.snesl_data.specs.Values.{Value, Values, an_int, a_bool, a_pair, a_vec, a_seq, no_values, more_values, HasType, AllHaveType}
use Rattle.snesl_values.specs.Inputs.{InputDeclaration, Environment, FitDeclarations}
use Rattle.snesl_evaluation.specs.Answer.{gives, faults}
use Rattle.snesl_evaluation.specs.Eval.{eval, no_calls, calls_of, program_value}
use Rattle.snesl_types.specs.Contexts.{names_context}
use Rattle.snesl_types.specs.Programs.{nothing_declared}
use Rattle.flow_messages.specs.Cells.{Cell, unit}
use Rattle.flow_messages.specs.declared.message.Kind.{Kind}
use Rattle.flow_base.specs.Columns.{Columns}
use Rattle.flow_values.specs.Shapes.{is_a, all_are, kinds_of}
use Rattle.flow_nodes.specs.functions.Lists.{bind, each}
use Rattle.flow_nodes.specs.functions.Made.{columns_of_values, print_made}
use Rattle.flow_nodes.proofs.OfFunctions.Edges.{laid_length}
use Rattle.flow_nodes.proofs.OfFunctions.Encoded.{print_makes}
use Rattle.flow_nodes.proofs.OfFunctions.ValueDecoding.{all_split, all_cons}
use Rattle.flow_nodes.specs.plans.Plans.{print, streams_at, run}
use Rattle.snesl_translation.specs.Wires.{Wires, type_of_wires, numbers_of, wires_from, Bound}
use Rattle.snesl_translation.specs.Makings.{Making, done, and_then, tested}
use Rattle.snesl_translation.specs.FreeNames.{Names, without, free}
use Rattle.snesl_translation.specs.Translation.{tr}
use Rattle.snesl_translation.specs.Functions.{no_bodies, bodies_of}
use Rattle.snesl_translation.specs.Carrying.{Carries, Controls, given_by, Makes, GoesTo}
use Rattle.snesl_translation.specs.Meaning.{Bears}
use Rattle.snesl_translation.specs.Theorems.{CallsMean, TypedExpressionsMean}
use Rattle.snesl_translation.specs.Programs.{first_offset, source_steps, sourced, inputs_sourced, columns_of, cells_of, control_sourced, program_plan, PlansMean}
use Rattle.snesl_translation.proofs.Carrying.{fresh, wires_type, wires_whole, tested_runs, carried_on, first_stops, rest_stops}
use Rattle.snesl_translation.proofs.Doing.{Does, done_does, then_does}
use Rattle.snesl_translation.proofs.Forms.{controls_on}
use Rattle.snesl_translation.proofs.Bindings.{borne_with}
use Rattle.snesl_translation.proofs.Calls.{functions_mean}

-- a value of a type is so by its shape
both_true : (a b : Bool) → a ≡ true → b ≡ true → a && b ≡ true
both_true a b h k = ap (λ x. x && b) h ∙ k

mutual
  typed_is : (dialect : Dialect) (t : Ty) (v : Value) → HasType dialect v t → is_a t v ≡ true
  typed_is dialect int (an_int n) h = refl
  typed_is dialect bool (a_bool b) h = refl
  typed_is dialect (pair first second) (a_pair a b) h = both_true (is_a first a) (is_a second b) (typed_is dialect first a h.0) (typed_is dialect second b h.1)
  typed_is dialect (vec item) (a_vec vs) h = typed_are dialect item vs h
  typed_is dialect (seq item) (a_seq vs) h = typed_are dialect item vs h
  typed_is dialect _ _ h = absurd h

  typed_are : (dialect : Dialect) (item : Ty) (vs : Values) → AllHaveType dialect vs item → all_are item vs ≡ true
  typed_are dialect item no_values h = refl
  typed_are dialect item (more_values v vs) h = both_true (is_a item v) (all_are item vs) (typed_is dialect item v h.0) (typed_are dialect item vs h.1)

-- sources

-- from this number on the cells are those of the columns
Agrees : (ℕ → List Cell) → ℕ → Columns → Type 0
Agrees cells number columns = (k i : ℕ) → k ≡ number + i → i < length columns → cells k ≡ get_or columns i []

sources_run : (at : ℕ) (cells : ℕ → List Cell) (number : ℕ) (kinds : List Kind) (columns streams : Columns) → length columns ≡ length kinds
    → Agrees cells number columns → run (source_steps at cells number kinds) streams ≡ Some (streams ++ columns)
unfolding Agrees
sources_run at cells number [] [] streams e agrees = ap Some (sym (append-nil streams))
sources_run at cells number [] (c ∷ columns) streams e agrees = absurd (omega (arith))
sources_run at cells number (kind ∷ kinds) [] streams e agrees = absurd (omega (arith))
sources_run at cells number (kind ∷ kinds) (c ∷ columns) streams e agrees =
    ap (λ x. run (source_steps at cells (suc number) kinds) (streams ++ (x ∷ []))) (agrees number 0 (omega (arith)) (omega (arith)))
    ∙ sources_run at cells (suc number) kinds columns (streams ++ (c ∷ [])) (omega (arith)) (λ k i is lt. agrees k (suc i) (omega (arith, is)) (omega (arith, lt)))
    ∙ ap Some (append_assoc streams (c ∷ []) columns)

sourced_does : (at : ℕ) (cells : ℕ → List Cell) (t : Ty) (v : Value) (streams : Columns) → is_a t v ≡ true → Agrees cells (length streams) (columns_of_values t (v ∷ []))
    → Does streams (sourced at cells t (length streams)) (λ l w. Carries l w t (v ∷ []))
sourced_does at cells t v streams is agrees = (
  columns_of_values t (v ∷ []),
  sources_run at cells (length streams) (kinds_of t) (columns_of_values t (v ∷ [])) streams (laid_length t (v ∷ [])) agrees,
  omega (arith, length-append streams (columns_of_values t (v ∷ [])), laid_length t (v ∷ [])),
  record {
    of_type = wires_type t (length streams);
    whole = wires_whole t (length streams);
    are = all_cons t v [] is refl;
    there =
        fresh t streams (columns_of_values t (v ∷ [])) (laid_length t (v ∷ []));
  },
)

first_agree : (cells : ℕ → List Cell) (number : ℕ) (first others : Columns) → Agrees cells number (first ++ others) → Agrees cells number first
unfolding Agrees
first_agree cells number first others agrees k i is lt =
    agrees k i is (omega (arith, lt, length-append first others)) ∙ get_or_append_left first others [] i lt

others_agree : (cells : ℕ → List Cell) (number : ℕ) (first others : Columns) → Agrees cells number (first ++ others) → Agrees cells (number + length first) others
unfolding Agrees
others_agree cells number first others agrees k i is lt =
    agrees k (length first + i) (omega (arith, is)) (omega (arith, lt, length-append first others)) ∙ get_or-append-add first others i []

inputs_does : (at : ℕ) (cells : ℕ → List Cell) (dialect : Dialect) (declarations : List InputDeclaration) (environment : Environment)
    (streams : Columns) → FitDeclarations dialect declarations environment
    → Agrees cells (length streams) (columns_of declarations environment)
    → Does streams (inputs_sourced at cells declarations (length streams)) (λ l bound. (names : Names) → Bears l bound names (names_context declarations) (environment ∷ []))
unfolding sourced_does
inputs_does at cells dialect [] environment streams fits agrees = done_does [] streams (λ l bound. (names : Names) → Bears l bound names [] (environment ∷ [])) (λ names bytes t among is. absurd (cc))
inputs_does at cells dialect (declaration ∷ declarations) [] streams fits agrees = absurd fits
inputs_does at cells dialect (declaration ∷ declarations) (entry ∷ environment) streams fits agrees =
    let t = declaration.1 in
    let columns = columns_of_values t (entry.1 ∷ []) in
    let behind = columns_of declarations environment in
    let first = sourced_does at cells t entry.1 streams (typed_is dialect t entry.1 fits.1) (first_agree cells (length streams) columns behind agrees) in
    let there = streams ++ first.0 in
    let later = subst (λ n. Agrees cells n behind) (sym (length-append streams columns)) (others_agree cells (length streams) columns behind agrees) in
    let others = inputs_does at cells dialect declarations environment there fits.2 later in
    let last = there ++ others.0 in
    let u = wires_from t (length streams) in
    let bound = (inputs_sourced at cells declarations (length there)).given in
    let named : ((declaration.0, entry.1) ∷ environment) ∷ [] ≡ (entry ∷ environment) ∷ [] = ap (λ n. ((n, entry.1) ∷ environment) ∷ []) (sym fits.0) in
    let borne : (names : Names) → Bears last ((declaration.0, u) ∷ bound) names (names_context (declaration ∷ declarations)) ((entry ∷ environment) ∷ []) = λ names.
    subst (Bears last ((declaration.0, u) ∷ bound) names (names_context (declaration ∷ declarations))) named
    (borne_with last bound declaration.0 u t names (names_context declarations) (environment ∷ []) (entry.1 ∷ []) refl
    (carried_on there others.0 u t (entry.1 ∷ []) first.3) (others.3 (without declaration.0 names))) in
    then_does (sourced at cells t (length streams)) (λ u k. and_then (inputs_sourced at cells declarations k) (λ bound k. done ((declaration.0, u) ∷ bound) k)) streams
    (λ l w. Carries l w t (entry.1 ∷ [])) (λ l bound. (names : Names) → Bears l bound names (names_context (declaration ∷ declarations)) ((entry ∷ environment) ∷ [])) first
    (then_does (inputs_sourced at cells declarations (length there)) (λ bound k. done ((declaration.0, u) ∷ bound) k) there
    (λ l bound. (names : Names) → Bears l bound names (names_context declarations) (environment ∷ []))
    (λ l bound. (names : Names) → Bears l bound names (names_context (declaration ∷ declarations)) ((entry ∷ environment) ∷ [])) others
    (done_does ((declaration.0, u) ∷ bound) last (λ l bound. (names : Names) → Bears l bound names (names_context (declaration ∷ declarations)) ((entry ∷ environment) ∷ [])) borne))

-- those of a program's sources are so after the control stream
cells_agree : (declarations : List InputDeclaration) (environment : Environment) → Agrees (cells_of declarations environment) 1 (columns_of declarations environment)
unfolding Agrees
cells_agree declarations environment k i is lt = ap (λ j. get_or (columns_of declarations environment) j []) (omega (arith, is))

no_calls_mean : CallsMean [] no_calls no_bodies
no_calls_mean streams at bytes signature us control rows is carry controls = absurd (cc)

-- Print of what carries one value
prints : (streams : Columns) (w : Wires) (t : Ty) (v : Value) → Carries streams w t (v ∷ []) → print_made (type_of_wires w) (columns_of_values t (v ∷ [])) ≡ Some []
prints streams w t v c = ap (λ s. print_made s (columns_of_values t (v ∷ []))) c.of_type ∙ print_makes t v (all_split t v [] c.are).0

pub plans_mean : TypedExpressionsMean → PlansMean
plans_mean expressions text program declared t environment typed fits = (where_value, where_fault)
  where
    at : ℕ
    at = first_offset program.expression

    dialect : Dialect
    dialect = program.dialect

    cells : ℕ → List Cell
    cells = cells_of declared.inputs environment

    plan : Making Wires
    plan = program_plan text program declared.inputs cells

    value : Environment → Option Value
    value environment = given_by (eval dialect program.expression text (calls_of dialect text program.declarations) environment)

    translated : Bound → ℕ → ℕ → Making Wires
    translated = tr dialect text (bodies_of dialect text program.declarations) program.expression

    printed : Wires → ℕ → Making Wires
    printed w k = tested at (print (type_of_wires w)) (numbers_of w) w k

    behind : ℕ → ℕ → Making Wires
    behind control k = and_then (inputs_sourced at cells declared.inputs k) (λ bound k. and_then (translated bound control k) printed)

    first : Columns
    first = (unit ∷ []) ∷ []

    inputs : Does first (inputs_sourced at cells declared.inputs (length first)) (λ l bound. (names : Names) → Bears l bound names (names_context declared.inputs) (environment ∷ []))
    inputs = inputs_does at cells dialect declared.inputs environment first fits (cells_agree declared.inputs environment)

    there : Columns
    there = first ++ inputs.0

    bound : Bound
    bound = (inputs_sourced at cells declared.inputs (length first)).given

    goes : GoesTo there t (translated bound zero (length there)) (each value (environment ∷ []))
    goes = expressions dialect text declared.functions (calls_of dialect text program.declarations) (bodies_of dialect text program.declarations) (names_context declared.inputs) program.expression t
        (functions_mean expressions dialect text nothing_declared declared no_calls no_bodies program.declarations no_calls_mean typed.declarations) typed.expression
        there bound zero (environment ∷ []) (inputs.3 (free text program.expression)) (controls_on first inputs.0 zero 1 refl)

    where_value : (v : Value) → program_value text program environment ≡ gives v
        → (type_of_wires plan.given ≡ t) × ((streams : Columns) × (run plan.steps [] ≡ Some streams) × (streams_at (numbers_of plan.given) streams ≡ Some (columns_of_values t (v ∷ []))))
    where_value v is =
        let makes : Makes there t (translated bound zero (length there)) (v ∷ []) =
        subst (λ a. GoesTo there t (translated bound zero (length there)) (bind (given_by a) (λ y. Some (y ∷ [])))) is goes in
        let last = there ++ makes.0 in
        let w = (translated bound zero (length there)).given in
        let c = makes.3 in
        let Holds : Columns → Wires → Type 0 = λ l w. (type_of_wires w ≡ t) × (streams_at (numbers_of w) l ≡ Some (columns_of_values t (v ∷ []))) in
        let end : Does last (printed w (length last)) Holds = (
          [],
          tested_runs last at (print (type_of_wires w)) (numbers_of w) w (length last) (columns_of_values t (v ∷ [])) c.there (prints last w t v c),
          ap length (sym (append-nil last)),
          subst (λ l. Holds l w) (sym (append-nil last)) (c.of_type, c.there),
        ) in
        let whole = then_does (control_sourced at zero) behind [] (λ l c. Controls l c 1) Holds (first, refl, refl, refl)
        (then_does (inputs_sourced at cells declared.inputs (length first)) (λ bound k. and_then (translated bound zero k) printed) first
        (λ l bound. (names : Names) → Bears l bound names (names_context declared.inputs) (environment ∷ [])) Holds inputs
        (then_does (translated bound zero (length there)) printed there (λ l w. Carries l w t (v ∷ [])) Holds makes end)) in
        (whole.3.0, (whole.0, whole.1, whole.3.1))

    where_fault : (kind : FaultKind) (place : ℕ) → program_value text program environment ≡ faults kind place → run plan.steps [] ≡ None
    where_fault kind place is =
        let stops : run (translated bound zero (length there)).steps there ≡ None =
        subst (λ a. GoesTo there t (translated bound zero (length there)) (bind (given_by a) (λ y. Some (y ∷ [])))) is goes in
        rest_stops (control_sourced at zero) [] first refl refl behind
        (rest_stops (inputs_sourced at cells declared.inputs (length first)) first inputs.0 inputs.1 inputs.2 (λ bound k. and_then (translated bound zero k) printed)
        (first_stops (translated bound zero (length there)) printed there stops))
