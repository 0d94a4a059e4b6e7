use Rattle.std.proofs.Common.{map, sym, ap, ◌∙◌}
use Rattle.snesl_data.specs.Values.{value_of, values_of}
use Rattle.snesl_data.specs.Builders.{built_in}
use Rattle.snesl_data.proofs.Data.{elements_of-Others}
use Rattle.snesl_data.proofs.builder.Builder.finish.Goals as goal

pub returns-in-Ok-clause-ok : goal.returns-in-Ok-clause-ok
returns-in-Ok-clause-ok c =
    elements_of-Others c.in-Ok.all
    ∙ ap (λ v. values_of (map value_of v.items)) c.in-Ok.ensures.ok
    ∙ ap (λ l. values_of (map value_of l)) c.new-none.ensures.items
    ∙ ap (λ b. values_of (built_in b)) (sym c.in-Empty.is)

pub returns-in-Ok-new-4-clause-ok : goal.returns-in-Ok-new-4-clause-ok
returns-in-Ok-new-4-clause-ok c =
    elements_of-Others c.in-Ok-new-4.all
    ∙ ap (λ v. values_of (map value_of v.items)) c.in-Ok-new-4.ensures.ok
    ∙ ap (λ b. values_of (built_in b)) (sym c.in-Others.is)
