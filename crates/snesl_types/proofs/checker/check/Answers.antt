use Rattle.snesl_data.specs.Types.{ty_of}
use Rattle.snesl_grammar.specs.View.{program_of}
use Rattle.snesl_types.specs.Programs.{IsFirstViolation, IsMemoryIfTyped}
use Rattle.snesl_types.specs.Views.{declared_in}
use Rattle.snesl_types.proofs.Passing.{passed_on}
use Rattle.snesl_types.proofs.ProgramSound.{refused_first, memory_if_typed, has_typing}
use Rattle.snesl_types.proofs.checker.check.Goals as goal

pub returns-in_err-declarations-clause-refused : goal.returns-in_err-declarations-clause-refused
returns-in_err-declarations-clause-refused c =
    let text = c.args.program.now.text.items in
    let program = program_of c.args.program.now in
    let refusal = c.in_err-declarations.field-0.0 in
    passed_on c.from_residual.result refusal (IsFirstViolation text program) c.from_residual.ensures
    (refused_first text program refusal c.in_err-declarations.ensures)

pub returns-in_err-declarations-clause-accepts : goal.returns-in_err-declarations-clause-accepts
returns-in_err-declarations-clause-accepts c =
    let text = c.args.program.now.text.items in
    let program = program_of c.args.program.now in
    let refusal = c.in_err-declarations.field-0.0 in
    passed_on c.from_residual.result refusal (IsMemoryIfTyped text program) c.from_residual.ensures
    (memory_if_typed text program refusal c.in_err-declarations.ensures)

pub invariant_of-result : goal.invariant_of-result
invariant_of-result c =
    let text = c.args.program.now.text.items in
    record {
      typed = ∣ has_typing text (program_of c.args.program.now) (declared_in text c.in_ok-declarations.declarations)
          (ty_of c.in_ok-declarations.ty) c.in_ok-declarations.ensures ∣₁;
    }

pub returns-clause-typed : goal.returns-clause-typed
returns-clause-typed c =
    let text = c.args.program.now.text.items in
    has_typing text (program_of c.args.program.now) (declared_in text c.in_ok-declarations.declarations)
    (ty_of c.in_ok-declarations.ty) c.in_ok-declarations.ensures
