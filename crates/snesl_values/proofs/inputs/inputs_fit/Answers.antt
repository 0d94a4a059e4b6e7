use Rattle.std.proofs.Math.Logic.{∥∥₁_elim}
use Rattle.snesl_values.specs.Inputs.{dialect_of, declarations_of, environment_of}
use Rattle.snesl_values.proofs.Once.{Fits-prop}
use Rattle.snesl_values.proofs.inputs.inputs_fit.Goals as goal

pub returns : goal.returns
unfolding dialect_of declarations_of environment_of
returns c =
    let inputs = c.args.inputs.now in
    ∥∥₁_elim inputs.fit (Fits-prop (dialect_of inputs) (declarations_of inputs) (environment_of inputs)) (λ h. h)
