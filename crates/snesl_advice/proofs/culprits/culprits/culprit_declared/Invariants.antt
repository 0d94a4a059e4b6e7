use Rattle.std.proofs.Common.{ℕ, Option, List, map, drop}
use Rattle.snesl_grammar.specs.tree.View.{declaration_of}
use Rattle.snesl_types.specs.Clashes.{clash_of}
use Rattle.snesl_advice.specs.culprits.Culprits.{BeginsOne, IsDeclared}
use Rattle.snesl_advice.proofs.culprits.culprits.culprit_declared.Given as goal

-- what begins one in the other declarations begins one in all
abbrev pub invariant-loop-declaration : goal.invariant-loop-declaration
invariant-loop-declaration l =
    (r : Option ℕ) → BeginsOne (λ part. IsDeclared l.at (clash_of l.clash) part (map declaration_of (drop l.declaration-index l.declarations))) r
    → BeginsOne (λ part. IsDeclared l.at (clash_of l.clash) part (map declaration_of l.declarations)) r
