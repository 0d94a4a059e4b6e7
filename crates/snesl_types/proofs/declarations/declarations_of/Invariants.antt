use Rattle.std.proofs.Common.{◌≡◌, drop, map}
use Rattle.snesl_values.specs.Inputs.{declared}
use Rattle.snesl_grammar.specs.tree.View.{declaration_of}
use Rattle.snesl_types.specs.Programs.{nothing_declared}
use Rattle.snesl_types.specs.Names.{signatures_in, sizes_in}
use Rattle.snesl_types.specs.Verdicts.{declarations_verdict}
use Rattle.snesl_types.proofs.declarations.declarations_of.Given as goal

abbrev pub invariant-loop-declaration : goal.invariant-loop-declaration
invariant-loop-declaration l =
    declarations_verdict l.dialect l.text nothing_declared (map declaration_of l.declarations)
    ≡ declarations_verdict l.dialect l.text
    (record { inputs = declared l.inputs.items; functions = signatures_in l.text l.functions.items; sizes = sizes_in l.text l.functions.items })
    (map declaration_of (drop l.declaration-index l.declarations))
