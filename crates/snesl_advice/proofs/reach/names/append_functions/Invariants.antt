use Rattle.std.proofs.Common.{◌≡◌, ◌++◌, drop, map}
use Rattle.snesl_grammar.specs.tree.View.{declaration_of}
use Rattle.snesl_advice.specs.reach.Candidates.{functions_among}
use Rattle.snesl_advice.proofs.reach.names.append_functions.Given as goal

-- the names of the other functions are still to come
abbrev pub invariant-loop-declaration : goal.invariant-loop-declaration
invariant-loop-declaration l =
    l.names.items ++ functions_among (map declaration_of (drop l.declaration-index l.declarations))
    ≡ l.initial.names.items ++ functions_among (map declaration_of l.declarations)
