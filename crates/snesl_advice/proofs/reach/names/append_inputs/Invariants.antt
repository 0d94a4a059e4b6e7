use Rattle.std.proofs.Common.{◌≡◌, ◌++◌, drop, map}
use Rattle.snesl_grammar.specs.tree.View.{declaration_of}
use Rattle.snesl_advice.specs.reach.Candidates.{inputs_among}
use Rattle.snesl_advice.proofs.reach.names.append_inputs.Given as goal

-- the names of the other inputs are still to come
abbrev pub invariant-loop-declaration : goal.invariant-loop-declaration
invariant-loop-declaration l =
    l.names.items ++ inputs_among (map declaration_of (drop l.declaration-index l.declarations))
    ≡ l.initial.names.items ++ inputs_among (map declaration_of l.declarations)
