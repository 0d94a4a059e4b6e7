use Rattle.std.proofs.Common.{◌≡◌, ◌++◌, map, drop}
use Rattle.snesl_grammar.specs.tree.View.{typed_of}
use Rattle.snesl_translation.specs.Functions.{parameters_bound}
use Rattle.snesl_translator.specs.steps.Views.{bindings_of, wires_of}
use Rattle.snesl_translator.proofs.frames.bind_parameters.Given as goal

abbrev pub invariant-loop-index : goal.invariant-loop-index
invariant-loop-index l =
    parameters_bound l.text (map typed_of l.parameters) (map wires_of l.arguments)
    ≡ bindings_of l.frame.items ++ parameters_bound l.text (map typed_of (drop l.index l.parameters)) (map wires_of (drop l.index l.arguments))
