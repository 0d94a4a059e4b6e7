-- What the type of a program says of its value.
use Rattle.std.proofs.Common.{◌≡◌, Result, Ok, Err, subst, sym}
use Rattle.std.proofs.Math.Logic.{∥∥₁_elim}
use Rattle.std.specs.Prelude.{IfOk}
use Rattle.std.specs.declared.alloc.AllocError.{AllocError}
use Rattle.snesl_data.specs.declared.datum.Datum.{Datum}
use Rattle.snesl_data.specs.declared.fault.Fault.{Fault}
use Rattle.snesl_values.specs.Inputs.{Environment, FitDeclarations}
use Rattle.snesl_data.specs.Values.{HasType}
use Rattle.snesl_evaluation.specs.Eval.{program_value}
use Rattle.snesl_evaluation.specs.Results.{IsAnswer}
use Rattle.snesl_types.specs.declared.typed.TypedProgram.{TypedProgram}
use Rattle.snesl_types.specs.Soundness.{Safe, TypesAllow}
use Rattle.snesl_grammar.specs.declared.program.Program.{Program}
use Rattle.snesl_grammar.specs.View.{program_of as tree_of_program}
use Rattle.snesl_types.specs.Typed.{program_of, typed_dialect, typed_inputs, typed_text, typed_tree, typed_ty}
use Rattle.snesl_types.proofs.Once.{Safe-prop}
use Rattle.snesl_types.proofs.ProgramsKeepTypes.{programs_are_sound}

typed_is_safe : (typed : TypedProgram) (environment : Environment) → FitDeclarations (typed_dialect typed) (typed_inputs typed) environment
    → Safe (λ v. HasType (typed_dialect typed) v (typed_ty typed)) (program_value (typed_text typed) (typed_tree typed) environment)
typed_is_safe typed environment fits =
    ∥∥₁_elim typed.typed (Safe-prop (typed_dialect typed) (typed_ty typed) (program_value (typed_text typed) (typed_tree typed) environment)) (λ d.
    programs_are_sound (typed_text typed) (typed_tree typed) d.0 (typed_ty typed) environment d.1 (subst (λ inputs. FitDeclarations (typed_dialect typed) inputs environment) (sym d.2) fits))

pub outcome_is_sound : (typed : TypedProgram) (environment : Environment) (outcome : Result Datum Fault) → FitDeclarations (typed_dialect typed) (typed_inputs typed) environment
    → IsAnswer outcome (program_value (typed_text typed) (typed_tree typed) environment) → TypesAllow (typed_dialect typed) (typed_ty typed) outcome
outcome_is_sound typed environment (Ok datum) fits e = subst (Safe (λ v. HasType (typed_dialect typed) v (typed_ty typed))) e (typed_is_safe typed environment fits)
outcome_is_sound typed environment (Err fault) fits e = subst (Safe (λ v. HasType (typed_dialect typed) v (typed_ty typed))) e (typed_is_safe typed environment fits)

-- the program as `plain` reads it
pub result_is_sound : (typed : TypedProgram) (environment : Environment) (program : Program) (result : Result (Result Datum Fault) AllocError) →
    FitDeclarations (typed_dialect typed) (typed_inputs typed) environment
    → program ≡ program_of typed → IfOk result (λ outcome. IsAnswer outcome (program_value program.text.items (tree_of_program program) environment))
    → IfOk result (TypesAllow (typed_dialect typed) (typed_ty typed))
result_is_sound typed environment program (Ok outcome) fits same e =
    outcome_is_sound typed environment outcome fits (subst (λ p. IsAnswer outcome (program_value p.text.items (tree_of_program p) environment)) same e)
result_is_sound typed environment program (Err error) fits same e = tt
