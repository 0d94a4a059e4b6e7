use Rattle.std.proofs.Common.{refl}
use Rattle.std.proofs.Math.Logic.{∥∥₁_elim}
use Rattle.std.specs.Arc.{arc_value}
use Rattle.snesl_values.specs.Declarations.{declared}
use Rattle.snesl_values.specs.Inputs.{dialect_of, declarations_of, environment_of, text_in, placed_in}
use Rattle.snesl_values.proofs.Entries.{AreSpelledAt-prop}
use Rattle.snesl_values.proofs.inputs.inputs_are_placed.Goals as goal

pub returns-clause-placed : goal.returns-clause-placed
unfolding dialect_of declarations_of text_in placed_in
returns-clause-placed c =
    let inputs = c.args.inputs.now in
    ∥∥₁_elim inputs.placed (AreSpelledAt-prop inputs.dialect (arc_value inputs.text).items (declared inputs.decls.items) inputs.all.items) (λ h. h)

pub returns-clause-environment : goal.returns-clause-environment
unfolding environment_of text_in placed_in
returns-clause-environment c = refl
