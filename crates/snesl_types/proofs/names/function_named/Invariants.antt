use Rattle.std.proofs.Common.{◌≡◌, drop}
use Rattle.snesl_grammar.specs.tree.Spelling.{spelling}
use Rattle.snesl_types.specs.Contexts.{function_named}
use Rattle.snesl_types.specs.Names.{signatures_in}
use Rattle.snesl_types.proofs.names.function_named.Given as goal

abbrev pub invariant-loop-function : goal.invariant-loop-function
invariant-loop-function l =
    function_named (spelling l.text l.name) (signatures_in l.text l.functions)
    ≡ function_named (spelling l.text l.name) (signatures_in l.text (drop l.function-index l.functions))
