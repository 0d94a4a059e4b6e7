-- Facts about types that have at most one proof.
use Rattle.snesl_data.specs.declared.dialect.Dialect.{Dialect}
use Rattle.snesl_data.specs.Types.{Ty}
use Rattle.snesl_data.specs.Values.{Value, HasType}
use Rattle.snesl_values.proofs.Once.{HasType-prop}
use Rattle.snesl_evaluation.specs.Answer.{Answer, gives, faults}
use Rattle.snesl_types.specs.Soundness.{Safe}

pub Safe-prop : (dialect : Dialect) (t : Ty) (answer : Answer Value) → IsProp (Safe (λ v. HasType dialect v t) answer)
Safe-prop dialect t (gives v) = HasType-prop dialect v t
Safe-prop dialect t (faults kind at) = hlevel
