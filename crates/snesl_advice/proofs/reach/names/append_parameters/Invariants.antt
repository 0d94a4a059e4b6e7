use Rattle.std.proofs.Common.{◌≡◌, ◌++◌, drop, map}
use Rattle.snesl_grammar.specs.tree.View.{typed_of}
use Rattle.snesl_advice.specs.reach.Candidates.{places_of}
use Rattle.snesl_advice.proofs.reach.names.append_parameters.Given as goal

-- the names of the other parameters are still to come
abbrev pub invariant-loop-parameter : goal.invariant-loop-parameter
invariant-loop-parameter l =
    l.names.items ++ places_of (map typed_of (drop l.parameter-index l.parameters)) ≡ l.initial.names.items ++ places_of (map typed_of l.parameters)
