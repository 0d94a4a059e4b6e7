use Rattle.std.proofs.Common.{◌≡◌, map, drop}
use Rattle.snesl_data.specs.Values.{value_of}
use Rattle.snesl_grammar.specs.tree.View.{binders_of}
use Rattle.snesl_evaluation.specs.Scopes.{all_in}
use Rattle.snesl_evaluation.proofs.Reading.{behind}
use Rattle.snesl_faults.specs.Faults.{sources}
use Rattle.snesl_faults.proofs.parts.sequence_values.Given as goal

abbrev pub invariant-loop-binder : goal.invariant-loop-binder
invariant-loop-binder l =
    all_in l.context l.scope (sources (binders_of l.binders))
    ≡ behind (map value_of l.values.items) (all_in l.context l.scope (sources (binders_of (drop l.binder-index l.binders))))
