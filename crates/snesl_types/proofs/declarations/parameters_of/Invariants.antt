use Rattle.std.proofs.Common.{◌≡◌, [], drop, map}
use Rattle.snesl_values.specs.Inputs.{declared}
use Rattle.snesl_grammar.specs.tree.View.{typed_of}
use Rattle.snesl_types.specs.Verdicts.{names_verdict}
use Rattle.snesl_types.proofs.declarations.parameters_of.Given as goal

abbrev pub invariant-loop-typing : goal.invariant-loop-typing
invariant-loop-typing l =
    names_verdict l.text [] (map typed_of l.written) ≡ names_verdict l.text (declared l.names.items) (map typed_of (drop l.typing-index l.written))
