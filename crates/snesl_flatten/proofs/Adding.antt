-- What the calls that add a program's steps add up to.
use Rattle.std.proofs.Common.{◌≡◌, ℕ, zero, List, [], ◌∷◌, ◌++◌, map, Result, Ok, Err, refl, subst, ◌∙◌, append-nil}
use Rattle.std.specs.Result.{IsErr, IsErrAnd}
use Rattle.snesl_data.specs.declared.dialect.Dialect.{Dialect}
use Rattle.snesl_data.specs.declared.refusal.Refusal.{Refusal}
use Rattle.snesl_data.specs.declared.refusal.Refusal.TheVariants.{TooBig, NoMemory}
use Rattle.snesl_values.specs.Inputs.{InputDeclaration}
use Rattle.snesl_data.specs.Types.{Ty}
use Rattle.snesl_grammar.specs.tree.Tree.{Tree}
use Rattle.snesl_grammar.specs.tree.View.{tree_of, declaration_of}
use Rattle.snesl_grammar.specs.declared.tree.declaration.Declaration.{Declaration as DeclarationData}
use Rattle.snesl_grammar.specs.View.{program_of as tree_of_program}
use Rattle.snesl_grammar.specs.declared.program.Program.{Program}
use Rattle.flow_nodes.specs.plans.Plans.{print}
use Rattle.snesl_translation.specs.Wires.{Wires, type_of_wires, numbers_of, Bound}
use Rattle.snesl_translation.specs.Makings.{Making, and_then, tested}
use Rattle.snesl_translation.specs.Translation.{tr}
use Rattle.snesl_translation.specs.Functions.{bodies_of}
use Rattle.snesl_translation.specs.Programs.{first_offset, control_sourced, inputs_sourced, program_plan, unset_cells}
use Rattle.snesl_translator.specs.declared.steps.steps.Steps.{Steps}
use Rattle.snesl_translator.specs.declared.steps.wires.Wires.{Wires as WiresData}
use Rattle.snesl_translator.specs.steps.Views.{dialect_of_steps, steps_in, next_in, wires_of}
use Rattle.snesl_translator.specs.steps.Added.{HasMade, Adds}
use Rattle.snesl_translator.proofs.OfSteps.Adding.{made_then, exits, exits_first}
use Rattle.snesl_translator.specs.Translated.{bodies_in}
use Rattle.snesl_translator.specs.declared.translator.ProgramContext.{ProgramContext}
use Rattle.snesl_flatten.specs.Behind.{printed}

-- the Print of streams w
abbrev print_step : ℕ → Wires → ℕ → Making Wires
print_step at w k = tested at (print (type_of_wires w)) (numbers_of w) w k

module _ (at : ℕ) (w : Wires) (t : Ty) (reads : List ℕ) (is_t : t ≡ type_of_wires w) (is_reads : reads ≡ numbers_of w) (old new : Steps) where
  test_made : (x : Unit {0}) → HasMade old new (tested at (print t) reads (tt {0}) (next_in old)) x → HasMade old new (print_step at w (next_in old)) w
  test_made x h = record {
    dialect = h.dialect;
    steps = h.steps ∙ (λ i. steps_in old ++ (record { at = at; operation = print (is_t i); reads = is_reads i } ∷ []));
    next = h.next;
    given = refl;
  }

  test_refused : (e : Refusal) → Adds (λ (x : Unit {0}). x) old new (tested at (print t) reads (tt {0}) (next_in old)) (Err e) → Adds wires_of old new (print_step at w (next_in old)) (Err e)
  test_refused NoMemory h = tt
  test_refused TooBig h = h
  test_refused _ h = absurd h

-- an expression, and a Print of its value
module _ (old middle new : Steps) (at : ℕ) (context : ProgramContext) (tree : Tree) (bound : Bound) (control : ℕ) where
  abbrev value : Bound → Making Wires
  value b = tr (dialect_of_steps old) context.text.now (bodies_in (dialect_of_steps old) context) tree b control (next_in old)

  pub value_refused : (e : Refusal) (r : Result WiresData Refusal) → IsErr r × IsErrAnd r (λ g. g ≡ e) → Adds wires_of old middle (value (bound ++ [])) (Err e)
      → Adds wires_of old middle (printed old at context tree bound control) r
  value_refused e r exit adds =
      exits_first wires_of wires_of old middle middle (value bound) (λ w k. print_step at w k) e r exit (subst (λ b. Adds wires_of old middle (value b) (Err e)) (append-nil bound) adds)

  pub print_refused : (w t : _) (reads : List ℕ) → t ≡ type_of_wires w → reads ≡ numbers_of w → (e : Refusal) (r : Result WiresData Refusal) → IsErr r × IsErrAnd r (λ g. g ≡ e)
      → HasMade old middle (value (bound ++ [])) w → Adds (λ (x : Unit {0}). x) middle new (tested at (print t) reads (tt {0}) (next_in middle)) (Err e)
      → Adds wires_of old new (printed old at context tree bound control) r
  print_refused w t reads is_t is_reads e r exit made adds =
      made_then wires_of old middle new (value bound) (λ w k. print_step at w k) w r (subst (λ b. HasMade old middle (value b) w) (append-nil bound) made)
      (exits wires_of middle new (print_step at w (next_in middle)) e r exit (test_refused at w t reads is_t is_reads middle new e adds))

  pub value_printed : (wires : WiresData) (t : Ty) (reads : List ℕ) (x : Unit {0}) → t ≡ type_of_wires (wires_of wires) → reads ≡ numbers_of (wires_of wires)
      → HasMade old middle (value (bound ++ [])) (wires_of wires) → HasMade middle new (tested at (print t) reads (tt {0}) (next_in middle)) x
      → HasMade old new (printed old at context tree bound control) (wires_of wires)
  value_printed wires t reads x is_t is_reads made test =
      let w = wires_of wires in
      made_then wires_of old middle new (value bound) (λ w k. print_step at w k) w (Ok wires) (subst (λ b. HasMade old middle (value b) w) (append-nil bound) made)
      (test_made at w t reads is_t is_reads middle new x test)

-- the whole program
module _ (old : Steps) (program : Program) (inputs : List InputDeclaration) (next_is : next_in old ≡ 0) where
  at : ℕ
  at = first_offset (tree_of program.expr)

  abbrev translated : Dialect → List ℕ → List DeclarationData → Bound → ℕ → ℕ → Making Wires
  translated dialect text functions bound control k = tr dialect text (bodies_of dialect text (map declaration_of functions)) (tree_of program.expr) bound control k

  abbrev after_inputs : (at control : ℕ) → Bound → ℕ → Making Wires
  after_inputs at control bound k = and_then (translated program.dialect program.text.items program.declarations.items bound control k) (λ w k. print_step at w k)

  abbrev after_control : (at control k : ℕ) → Making Wires
  after_control at control k = and_then (inputs_sourced at unset_cells inputs k) (λ bound k. after_inputs at control bound k)

  abbrev plan : Making Wires
  plan = program_plan program.text.items (tree_of_program program) inputs unset_cells

  module _ (begin : ℕ) (begin_is : begin ≡ first_offset (tree_of program.expr)) (behind : Steps) where
    abbrev control_made : Steps → ℕ → Type 0
    control_made new control = HasMade old new (control_sourced begin (next_in old)) control

    at_first : (new : Steps) (r : Result WiresData Refusal) →
        Adds wires_of old new (and_then (control_sourced begin (next_in old)) (λ control k. after_control begin control k)) r →
        Adds wires_of old new plan r
    at_first new r h =
        subst (λ a. Adds wires_of old new (and_then (control_sourced a zero) (λ control k. after_control a control k)) r) begin_is
        (subst (λ n. Adds wires_of old new (and_then (control_sourced begin n) (λ control k. after_control begin control k)) r) next_is h)

    pub control_refused : (new : Steps) (e : Refusal) (r : Result WiresData Refusal) → IsErr r × IsErrAnd r (λ g. g ≡ e) →
        Adds (λ (n : ℕ). n) old new (control_sourced begin (next_in old)) (Err e) → Adds wires_of old new plan r
    control_refused new e r exit adds =
        at_first new r (exits_first (λ (n : ℕ). n) wires_of old new new (control_sourced begin (next_in old))
        (λ control k. after_control begin control k) e r exit adds)

    pub inputs_refused : {C : Type 0} (view : C → Bound) (first new : Steps) (control : ℕ) (declarations : List InputDeclaration) → declarations
        ≡ inputs → (e : Refusal) (r : Result WiresData Refusal) → IsErr r × IsErrAnd r (λ g. g ≡ e)
        → control_made first control → Adds view first new (inputs_sourced begin unset_cells declarations (next_in first)) (Err e) → Adds wires_of old new plan r
    inputs_refused view first new control declarations same e r exit made adds =
        at_first new r (made_then wires_of old first new (control_sourced begin (next_in old)) (λ control k. after_control begin control k) control r made
        (exits_first view wires_of first new new (inputs_sourced begin unset_cells inputs (next_in first)) (λ bound k. after_inputs begin control bound k) e r exit
        (subst (λ l. Adds view first new (inputs_sourced begin unset_cells l (next_in first)) (Err e)) same adds)))

    pub program_added : (first second new : Steps) (control : ℕ) (declarations : List InputDeclaration) (bound bound' : Bound)
        (context : ProgramContext) (r : Result WiresData Refusal) → declarations ≡ inputs → bound' ≡ bound
        → dialect_of_steps old ≡ program.dialect → context.text.now ≡ program.text.items → context.functions.now ≡ program.declarations.items
        → control_made first control → HasMade first second (inputs_sourced begin unset_cells declarations (next_in first)) bound
        → Adds wires_of second new (printed second begin context (tree_of program.expr) bound' control) r → Adds wires_of old new plan r
    program_added first second new control declarations bound bound' context r same same_bound dialect text functions made made_inputs adds =
        let on : dialect_of_steps second ≡ program.dialect = made_inputs.dialect ∙ made.dialect ∙ dialect in
        at_first new r (made_then wires_of old first new (control_sourced begin (next_in old)) (λ control k. after_control begin control k) control r made
        (made_then wires_of first second new (inputs_sourced begin unset_cells inputs (next_in first)) (λ bound k. after_inputs begin control bound k) bound r
        (subst (λ l. HasMade first second (inputs_sourced begin unset_cells l (next_in first)) bound) same made_inputs)
        (subst (λ m. Adds wires_of second new m r) (λ i. and_then (translated (on i) (text i) (functions i) (same_bound i) control (next_in second)) (λ w k. print_step begin w k)) adds)))
