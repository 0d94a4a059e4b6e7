use Rattle.std.proofs.Common.{drop}
use Rattle.snesl_translation.specs.Translation.{same_lengths}
use Rattle.snesl_translator.specs.steps.Views.{bindings_of, next_in}
use Rattle.snesl_translator.proofs.OfSteps.Adding.{Continues}
use Rattle.snesl_translator.proofs.steps.forms.same_as.Given as goal

abbrev pub invariant-loop-source : goal.invariant-loop-source
invariant-loop-source l =
    Continues l.fn.steps l.steps (same_lengths l.at l.flags (bindings_of (drop l.source-index l.others)) (next_in l.steps))
    (same_lengths l.at l.flags (bindings_of l.others) (next_in l.fn.steps))
