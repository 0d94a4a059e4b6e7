use Rattle.std.proofs.Common.{ap}
use Rattle.snesl_data.specs.Values.{value_of}
use Rattle.snesl_evaluation.specs.Builtins.{elements_at}
use Rattle.snesl_evaluation.proofs.parts.elements.Goals as goal

pub returns-in-Vec : goal.returns-in-Vec
returns-in-Vec c = ap (λ d. elements_at c.args.at (value_of d)) c.in-Vec.is
