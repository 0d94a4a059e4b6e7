use Rattle.std.proofs.Common.{subst}
use Rattle.std.specs.Prelude.{IfOk}
use Rattle.snesl_values.specs.Inputs.{declarations_of, environment_of, FitDeclarations}
use Rattle.snesl_evaluation.specs.Eval.{program_value}
use Rattle.snesl_evaluation.specs.Results.{IsAnswer}
use Rattle.snesl_grammar.specs.View.{program_of as tree_of_program}
use Rattle.snesl_types.specs.Typed.{typed_dialect}
use Rattle.snesl_types.proofs.PlainSound.{result_is_sound}
use Rattle.snesl_types.proofs.reference.plain.Goals as goal

pub returns-clause-exact : goal.returns-clause-exact
returns-clause-exact c =
    subst (λ program. IfOk c.evaluate.result (λ answer. IsAnswer answer (program_value program.text.items (tree_of_program program) (environment_of c.args.inputs.now))))
    c.program.ensures c.evaluate.ensures.exact

pub returns-clause-sound : goal.returns-clause-sound
returns-clause-sound c =
    let environment = environment_of c.args.inputs.now in
    result_is_sound c.args.typed.now environment c.program.result.now c.evaluate.result
    (subst (λ declarations. FitDeclarations (typed_dialect c.args.typed.now) declarations environment) c.requires.fits
    (subst (λ dialect. FitDeclarations dialect (declarations_of c.args.inputs.now) environment) c.requires.in_dialect c.inputs_fit.ensures)) c.program.ensures c.evaluate.ensures.exact
