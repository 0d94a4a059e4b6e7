use Rattle.std.proofs.Common.{◌≡◌, drop}
use Rattle.snesl_translation.specs.Translation.{is_bound}
use Rattle.snesl_translator.specs.steps.Views.{bindings_of}
use Rattle.snesl_translator.proofs.scopes.scope.is_bound.Given as goal

abbrev pub invariant-loop-binding : goal.invariant-loop-binding
invariant-loop-binding l = is_bound l.name (bindings_of l.bindings) ≡ is_bound l.name (bindings_of (drop l.binding-index l.bindings))
