use Rattle.std.proofs.Common.{map, ap, ◌∙◌}
use Rattle.snesl_data.specs.Values.{value_of, values_of}
use Rattle.snesl_data.proofs.Data.{elements_of-Others}
use Rattle.snesl_data.proofs.datum.Elements.of_data.Goals as goal

pub returns : goal.returns
returns c = elements_of-Others c.in_ok-shared.shared ∙ ap (λ v. values_of (map value_of v.items)) c.in_ok-shared.ensures.ok
