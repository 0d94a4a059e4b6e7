use Rattle.std.proofs.Common.{◌+◌, [], ◌∷◌, map, drop, sym, ap, ◌∙◌}
use Rattle.std.proofs.lemmas.List.{map-append}
use Rattle.snesl_data.specs.Values.{value_of}
use Rattle.snesl_grammar.specs.tree.View.{binders_of}
use Rattle.snesl_evaluation.specs.Scopes.{all_in}
use Rattle.snesl_evaluation.proofs.Reading.{behind}
use Rattle.snesl_faults.specs.Faults.{sources}
use Rattle.snesl_faults.proofs.Steps.{sequences_given}
use Rattle.snesl_faults.proofs.parts.sequence_values.Goals as goal

pub loop-binder-preserved : goal.loop-binder-preserved
loop-binder-preserved c =
    let context = c.args.context.now in
    let scope = c.args.scope.now in
    let binders = c.args.binders.now in
    let i = c.loop-binder.binder-index in
    let done = c.loop-binder.values.items in
    let value = c.in_ok-value.value in
    c.loop-binder.invariant
    ∙ sequences_given context scope (map value_of done) binders i c.binder-item.result (value_of value) c.loop-binder-test.true c.binder-item.is c.in_ok-value.ensures
    ∙ ap (λ vs. behind vs (all_in context scope (sources (binders_of (drop (i + 1) binders))))) (sym (ap (map value_of) c.in_ok-push.ensures.items ∙ map-append value_of done (value ∷ [])))
