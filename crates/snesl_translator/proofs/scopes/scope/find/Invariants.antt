use Rattle.std.proofs.Common.{◌≡◌, ◌++◌, drop}
use Rattle.snesl_translation.specs.Wires.{Bound}
use Rattle.snesl_translation.specs.Translation.{wires_named}
use Rattle.snesl_translator.specs.steps.Views.{bindings_of}
use Rattle.snesl_translator.proofs.scopes.scope.find.Given as goal

abbrev pub invariant-loop-binding : goal.invariant-loop-binding
invariant-loop-binding l =
    (outer : Bound) → wires_named l.name (bindings_of l.bindings ++ outer) ≡ wires_named l.name (bindings_of (drop l.binding-index l.bindings) ++ outer)
