use Rattle.std.proofs.Common.{drop}
use Rattle.snesl_translation.specs.Programs.{source_steps, unset_cells}
use Rattle.snesl_translator.specs.steps.Views.{next_in}
use Rattle.snesl_translator.specs.steps.Added.{only_steps}
use Rattle.snesl_translator.proofs.OfSteps.Adding.{Continues}
use Rattle.snesl_translator.proofs.steps.steps.Steps.sources.Given as goal

abbrev pub invariant-loop-kind : goal.invariant-loop-kind
invariant-loop-kind l =
    Continues l.fn.self l.self (only_steps (source_steps l.at unset_cells (next_in l.self) (drop l.kind-index l.kinds)) (next_in l.self))
    (only_steps (source_steps l.at unset_cells (next_in l.fn.self) l.kinds) (next_in l.fn.self))
