-- The plan of a typed program is wired.
use Rattle.std.specs.Prelude.{◌≡◌, ℕ, zero, suc, List, [], ◌∷◌, ◌++◌, length, refl}
use Rattle.std.proofs.Common.{sym, ap, ◌∙◌, subst, length-append, append_assoc, append-nil}
use Rattle.snesl_data.specs.Types.{Ty}
use Rattle.snesl_values.specs.Inputs.{InputDeclaration}
use Rattle.snesl_grammar.specs.tree.Tree.{ProgramTree}
use Rattle.snesl_types.specs.Contexts.{names_context}
use Rattle.snesl_types.specs.Programs.{Declared, ProgramTypes, nothing_declared}
use Rattle.flow_messages.specs.Cells.{Cell}
use Rattle.flow_messages.specs.declared.message.Kind.{Kind}
use Rattle.flow_messages.specs.declared.message.Kind.TheVariants.{Unit as UnitKind}
use Rattle.flow_values.specs.Shapes.{kinds_of}
use Rattle.flow_nodes.specs.plans.Ports.{AreWired, kinds_after}
use Rattle.snesl_translation.specs.Wires.{numbers_of, wires_from}
use Rattle.snesl_translation.specs.FreeNames.{Names, without, free}
use Rattle.snesl_translation.specs.Functions.{no_bodies, bodies_of}
use Rattle.snesl_translation.specs.Programs.{first_offset, source_steps, sourced, inputs_sourced, control_sourced, program_plan}
use Rattle.snesl_translation.specs.wiring.Wirings.{PlansAreWired}
use Rattle.snesl_translation.proofs.OfWiring.Fitting.{Stream, stream_on, Reads, Fits, fits_on, fits_type, numbers_read, new_fit}
use Rattle.snesl_translation.proofs.OfWiring.Making.{IsMade, Makes, done_made, then_made, tested_made}
use Rattle.snesl_translation.proofs.OfWiring.Bearing.{Bears, bears_with}
use Rattle.snesl_translation.proofs.OfWiring.Expressions.{CallsMake, typed_made}
use Rattle.snesl_translation.proofs.OfWiring.Functions.{functions_made}

-- sources

sources_wired : (at : ℕ) (cells : ℕ → List Cell) (number : ℕ) (new kinds : List Kind)
    → AreWired kinds (source_steps at cells number new) × (kinds_after kinds (source_steps at cells number new) ≡ kinds ++ new)
sources_wired at cells number [] kinds = (tt, sym (append-nil kinds))
sources_wired at cells number (kind ∷ new) kinds =
    let rest = sources_wired at cells (suc number) new (kinds ++ (kind ∷ [])) in
    ((refl, rest.0), rest.1 ∙ append_assoc kinds (kind ∷ []) new)

sourced_made : (at : ℕ) (cells : ℕ → List Cell) (t : Ty) (kinds : List Kind) → Makes kinds t (sourced at cells t (length kinds))
sourced_made at cells t kinds =
    let s = sources_wired at cells (length kinds) (kinds_of t) kinds in
    record {
      wired = s.0;
      counted = sym (ap length s.1 ∙ length-append kinds (kinds_of t));
      holds = subst (λ l. Fits l t (wires_from t (length kinds))) (sym s.1) (new_fit kinds t);
    }

inputs_made : (at : ℕ) (cells : ℕ → List Cell) (declarations : List InputDeclaration) (kinds : List Kind)
    → IsMade kinds (inputs_sourced at cells declarations (length kinds)) (λ on bound. (names : Names) → Bears on bound names (names_context declarations))
inputs_made at cells [] kinds = done_made (λ names. record { fits = λ bytes t among is. absurd (cc) })
inputs_made at cells (declaration ∷ declarations) kinds =
    then_made _ (sourced_made at cells declaration.1 kinds) (λ on more u fu.
    then_made _ (inputs_made at cells declarations on) (λ last more' bound h.
    done_made (λ names. bears_with names declaration.0 u declaration.1 (fits_on more' fu) (h (without declaration.0 names)))))

control_made : (at : ℕ) → IsMade [] (control_sourced at zero) (λ on control. Stream on control UnitKind)
control_made at = record { wired = (refl, tt); counted = refl; holds = record { there = refl } }

-- no function is declared, and none is called
no_calls_make : CallsMake [] no_bodies
no_calls_make kinds at bytes signature us control is fits units = absurd (cc)

plan_made : (text : List ℕ) (program : ProgramTree) (declared : Declared) (t : Ty) (cells : ℕ → List Cell) → ProgramTypes text program declared t →
    Makes [] t (program_plan text program declared.inputs cells)
plan_made text program declared t cells typed =
    let at = first_offset program.expression in
    let bodies = bodies_of program.dialect text program.declarations in
    let calls : CallsMake declared.functions bodies = functions_made program.dialect text nothing_declared declared no_bodies program.declarations no_calls_make typed.declarations in
    then_made _ (control_made at) (λ on more control units.
    then_made _ (inputs_made at cells declared.inputs on) (λ on' more' bound bears.
    then_made _ (typed_made program.dialect text declared.functions bodies calls typed.expression on' bound control
    (bears (free text program.expression)) (stream_on more' units)) (λ last more'' w fit.
    tested_made (subst (λ s. Reads last (numbers_of w) (kinds_of s)) (sym (fits_type fit)) (numbers_read fit)) refl fit)))

pub plans_are_wired : PlansAreWired
plans_are_wired text program declared t cells typed = let made = plan_made text program declared t cells typed in (made.wired, fits_type made.holds)
