-- The steps of a program, and how they change where a source is set.
use Rattle.std.proofs.Common.{◌≡◌, ◌≢◌, ℕ, zero, suc, ◌+◌, ◌-◌, ◌<◌, ◌≤◌, List, [], ◌∷◌, ◌++◌, length, get_or, set, Some, refl, sym, ap, ◌∙◌, arith, append_assoc, append-nil, length-append}
use Rattle.std.proofs.Math.Path.{ap₂}
use Rattle.std.proofs.lemmas.List.{set-append_left}
use Rattle.std.proofs.lemmas.Option.{slice_get_within}
use Rattle.std.specs.List.{slice_get}
use Rattle.snesl_values.specs.Inputs.{InputDeclaration}
use Rattle.snesl_grammar.specs.tree.Tree.{ProgramTree}
use Rattle.flow_messages.specs.Cells.{Cell, unit}
use Rattle.flow_messages.specs.declared.message.Kind.{Kind}
use Rattle.flow_messages.specs.declared.message.Kind.TheVariants.{Unit as UnitKind}
use Rattle.flow_base.specs.Columns.{Columns}
use Rattle.flow_values.specs.Shapes.{kinds_of}
use Rattle.flow_values.specs.Flats.{width}
use Rattle.flow_nodes.specs.plans.Plans.{Step, source, print}
use Rattle.flow_nodes.specs.plans.Settings.{with_source}
use Rattle.flow_nodes.proofs.OfPlans.Places.{get_left}
use Rattle.snesl_translation.specs.Wires.{Wires, type_of_wires, numbers_of, wires_from, Bound}
use Rattle.snesl_translation.specs.Makings.{Making, and_then}
use Rattle.snesl_translation.specs.Translation.{tr}
use Rattle.snesl_translation.specs.Functions.{bodies_of}
use Rattle.snesl_translation.specs.Programs.{first_offset, source_steps, inputs_sourced, program_plan, unset_cells}
use Rattle.snesl_flatten.specs.Networks.{program_steps}
use Rattle.snesl_flatten.specs.Sources.{all_kinds, source_columns}

abbrev pub source_step : ℕ → Kind → List Cell → Step
source_step at kind cells = record { at = at; operation = source kind cells; reads = [] }

-- sources of some kinds, and then of others
source_append : (at : ℕ) (cells : ℕ → List Cell) (n : ℕ) (ks ls : List Kind) → source_steps at cells n (ks ++ ls) ≡ source_steps at cells n ks ++ source_steps at cells (n + length ks) ls
source_append at cells n [] ls = let e : n ≡ n + zero = omega arith in ap (λ m. source_steps at cells m ls) e
source_append at cells n (k ∷ ks) ls =
    let e : suc n + length ks ≡ n + suc (length ks) = omega arith in
    ap (λ l. source_step at k (cells n) ∷ l) (source_append at cells (suc n) ks ls ∙ ap (λ m. source_steps at cells (suc n) ks ++ source_steps at cells m ls) e)

-- those of all inputs
inputs_steps : (at : ℕ) (cells : ℕ → List Cell) (ds : List InputDeclaration) (next : ℕ) → (inputs_sourced at cells ds next).steps ≡ source_steps at cells next (all_kinds ds)
unfolding and_then
inputs_steps at cells [] next = refl
inputs_steps at cells (d ∷ ds) next =
    let k = next + width d.1 in
    ap (λ l. source_steps at cells next (kinds_of d.1) ++ l) (append-nil (inputs_sourced at cells ds k).steps ∙ inputs_steps at cells ds k)
    ∙ sym (source_append at cells next (kinds_of d.1) (all_kinds ds))

-- what they write changes no number
inputs_given : (at : ℕ) (cells other : ℕ → List Cell) (ds : List InputDeclaration) (next : ℕ) →
    ((inputs_sourced at cells ds next).given ≡ (inputs_sourced at other ds next).given) × ((inputs_sourced at cells ds next).next ≡ (inputs_sourced at other ds next).next)
unfolding and_then
inputs_given at cells other [] next = (refl, refl)
inputs_given at cells other (d ∷ ds) next = let g = inputs_given at cells other ds (next + width d.1) in (ap (λ b. (d.0, wires_from d.1 next) ∷ b) g.0, g.1)

-- where each of some sources is
sources_get : (at : ℕ) (cells : ℕ → List Cell) (n : ℕ) (kinds : List Kind) (i : ℕ) (kind : Kind) (m : ℕ) → slice_get kinds i ≡ Some kind → m ≡ n + i →
    slice_get (source_steps at cells n kinds) i ≡ Some (source_step at kind (cells m))
sources_get at cells n [] i kind m e is = absurd (cc)
sources_get at cells n (k ∷ ks) zero kind m e is =
    let same : k ≡ kind = cc in
    let on : n ≡ m = omega arith in
    ap₂ (λ k m. Some (source_step at k (cells m))) same on
sources_get at cells n (k ∷ ks) (suc i) kind m e is = sources_get at cells (suc n) ks i kind m e (omega (arith, is))

sources_same : (at : ℕ) (cells other : ℕ → List Cell) (n : ℕ) (kinds : List Kind) → ((j : ℕ) → n ≤ j → other j ≡ cells j) → source_steps at cells n kinds ≡ source_steps at other n kinds
sources_same at cells other n [] same = refl
sources_same at cells other n (k ∷ ks) same =
    ap₂ (λ c l. source_step at k c ∷ l) (sym (same n (omega arith))) (sources_same at cells other (suc n) ks (λ j le. same j (omega (arith, le))))

-- one of them set
sources_set : (at : ℕ) (cells other : ℕ → List Cell) (n : ℕ) (kinds : List Kind) (i : ℕ) (kind : Kind) (m : ℕ) → slice_get kinds i ≡ Some kind → m ≡ n + i
    → ((j : ℕ) → n ≤ j → j ≢ m → other j ≡ cells j) → set (source_steps at cells n kinds) i (source_step at kind (other m)) ≡ source_steps at other n kinds
sources_set at cells other n [] i kind m e is same = refl
sources_set at cells other n (k ∷ ks) zero kind m e is same =
    let one : kind ≡ k = cc in
    let on : m ≡ n = omega arith in
    ap₂ (λ s l. s ∷ l) (ap₂ (λ k m. source_step at k (other m)) one on) (sources_same at cells other (suc n) ks (λ j le. same j (omega (arith, le)) (λ e. absurd (omega (arith, le, e, on)))))
sources_set at cells other n (k ∷ ks) (suc i) kind m e is same =
    ap₂ (λ c l. source_step at k c ∷ l) (sym (same n (omega arith) (λ e. absurd (omega (arith, e, is)))))
    (sources_set at cells other (suc n) ks i kind m e (omega (arith, is)) (λ j le ne. same j (omega (arith, le)) ne))

sources_length : (at : ℕ) (cells : ℕ → List Cell) (n : ℕ) (kinds : List Kind) → length (source_steps at cells n kinds) ≡ length kinds
sources_length at cells n [] = refl
sources_length at cells n (k ∷ ks) = ap suc (sources_length at cells (suc n) ks)

-- one column more
pushed_other : {A : Type 0} (xs : List A) (x : A) (q : ℕ) (d : A) → q ≢ length xs → get_or (xs ++ x ∷ []) q d ≡ get_or xs q d
pushed_other [] x zero d ne = absurd (ne refl)
pushed_other [] x (suc q) d ne = refl
pushed_other (y ∷ xs) x zero d ne = refl
pushed_other (y ∷ xs) x (suc q) d ne = pushed_other xs x q d (λ e. ne (ap suc e))

pushed_last : {A : Type 0} (xs : List A) (x : A) (d : A) → get_or (xs ++ x ∷ []) (length xs) d ≡ x
pushed_last [] x d = refl
pushed_last (y ∷ xs) x d = pushed_last xs x d

module _ (text : List ℕ) (program : ProgramTree) (inputs : List InputDeclaration) where
  abbrev begin : ℕ
  begin = first_offset program.expression

  -- the expression under names that stand for these streams
  abbrev value_under : Bound → ℕ → Making Wires
  value_under bound k = tr program.dialect text (bodies_of program.dialect text program.declarations) program.expression bound zero k

  abbrev pub value : Making Wires
  value = value_under (inputs_sourced begin unset_cells inputs 1).given (inputs_sourced begin unset_cells inputs 1).next

  abbrev print_of : Wires → Step
  print_of w = record { at = begin; operation = print (type_of_wires w); reads = numbers_of w }

  abbrev control_step : Step
  control_step = source_step begin UnitKind (unit ∷ [])

  -- all steps but the Print
  abbrev pub front_steps : (ℕ → List Cell) → List Step
  front_steps cells = control_step ∷ (source_steps begin cells 1 (all_kinds inputs) ++ value.steps)

  abbrev pub print_step : Step
  print_step = print_of value.given

  steps_are : (cells : ℕ → List Cell) → program_steps text program inputs cells ≡ control_step ∷ (source_steps begin cells 1 (all_kinds inputs) ++ (value.steps ++ print_step ∷ []))
  unfolding and_then
  steps_are cells =
      let given = inputs_given begin cells unset_cells inputs 1 in
      λ i. control_step ∷ (inputs_steps begin cells inputs 1 i ++ ((value_under (given.0 i) (given.1 i)).steps ++ print_of (value_under (given.0 i) (given.1 i)).given ∷ []))

  pub front_and_print : (cells : ℕ → List Cell) → program_steps text program inputs cells ≡ front_steps cells ++ print_step ∷ []
  front_and_print cells = steps_are cells ∙ ap (λ l. control_step ∷ l) (sym (append_assoc (source_steps begin cells 1 (all_kinds inputs)) value.steps (print_step ∷ [])))

  -- there is a step for each stream of the inputs, and one more
  pub steps_enough : (cells : ℕ → List Cell) → length (all_kinds inputs) < length (program_steps text program inputs cells)
  steps_enough cells =
      let sources = source_steps begin cells 1 (all_kinds inputs) in
      omega (arith, ap length (steps_are cells), length-append sources (value.steps ++ print_step ∷ []), sources_length begin cells 1 (all_kinds inputs))

  pub given_is : (cells : ℕ → List Cell) → (program_plan text program inputs cells).given ≡ value.given
  unfolding and_then
  given_is cells = let given = inputs_given begin cells unset_cells inputs 1 in λ i. (value_under (given.0 i) (given.1 i)).given

  module _ (columns : Columns) (kind : Kind) (there : slice_get (all_kinds inputs) (length columns) ≡ Some kind) where
    abbrev behind : List Step
    behind = value.steps ++ print_step ∷ []

    -- the next source that is to be set
    pub next_source : slice_get (program_steps text program inputs (source_columns columns)) (suc (length columns)) ≡ Some (source_step begin kind (source_columns columns (suc (length columns))))
    next_source =
        ap (λ l. slice_get l (suc (length columns))) (steps_are (source_columns columns))
        ∙ get_left (source_steps begin (source_columns columns) 1 (all_kinds inputs)) behind (length columns) (source_step begin kind (source_columns columns (suc (length columns))))
        (sources_get begin (source_columns columns) 1 (all_kinds inputs) (length columns) kind (suc (length columns)) there (omega arith))

    -- and the steps where it is set
    pub next_set : (c : List Cell) →
        with_source (suc (length columns)) (source_step begin kind (source_columns columns (suc (length columns)))) kind c
        (program_steps text program inputs (source_columns columns)) ≡ program_steps text program inputs (source_columns (columns ++ c ∷ []))
    next_set c =
        let n = length columns in
        let other = source_columns (columns ++ c ∷ []) in
        let sources = source_steps begin (source_columns columns) 1 (all_kinds inputs) in
        let inside : n < length sources = omega (arith, sources_length begin (source_columns columns) 1 (all_kinds inputs), slice_get_within (all_kinds inputs) n kind there) in
        let down : suc n - 1 ≡ n = omega arith in
        let other_is : other (suc n) ≡ c = ap (λ q. get_or (columns ++ c ∷ []) q []) down ∙ pushed_last columns c [] in
        ap (λ l. set l (suc n) (source_step begin kind c)) (steps_are (source_columns columns))
        ∙ ap (λ l. control_step ∷ l)
        (set-append_left sources behind n (source_step begin kind c) inside
        ∙ ap (λ l. l ++ behind)
        (ap (λ x. set sources n (source_step begin kind x)) (sym other_is)
        ∙ sources_set begin (source_columns columns) other 1 (all_kinds inputs) n kind (suc n) there (omega arith) (λ j le ne. pushed_other columns c (j - 1) [] (λ e. ne (omega (arith, le, e))))))
        ∙ sym (steps_are other)
