use Rattle.snesl_values.specs.Inputs.{declared, environment_of, spells}
use Rattle.snesl_types.specs.Eval.{program_value}
use Rattle.snesl_types.specs.GrammarView.{program_of as tree_of}
use Rattle.snesl_types.specs.Results.{IsAnswer}
use Rattle.snesl_types.specs.Typed.{typed_inputs, typed_ty}
use Rattle.callers.proofs.Checked.{of_text, of_program, of_inputs}
use Rattle.callers.proofs.types.value_of.Goals as goal

pub returns : goal.returns
returns c =
    let text = c.args.text.now in
    let parsed = c.in_ok-program.program in
    let typed = c.in_ok-typed.typed in
    let kept = c.in_ok-program.ensures.keeps_text in
    let same = c.in_ok-typed.ensures.program in
    let environment = environment_of c.in_ok-inputs.inputs in
    record {
      program = tree_of parsed;
      inputs = typed_inputs typed;
      ty = typed_ty typed;
      environment = environment;
      parses = c.in_ok-program.ensures.right;
      types = of_text text parsed typed kept same c.in_ok-typed.ensures.typed;
      reads = of_inputs text parsed typed kept same c.args.input.now c.dialect.result (declared c.decls.result.now) (spells environment)
          c.dialect.ensures c.decls.ensures c.in_ok-inputs.ensures.spelled;
      answers = of_program text parsed typed kept same (λ text program. IsAnswer c.in_ok-plain.field-0 (program_value text program environment)) c.in_ok-plain.ensures.exact;
    }
