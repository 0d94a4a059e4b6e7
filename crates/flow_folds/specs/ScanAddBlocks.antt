-- What ScanAdd makes of blocks of flags and elements.
use Rattle.std.specs.Prelude.{◌≡◌, ℤ, pos, ◌+ℤ◌, Bool, true, false, List, [], ◌∷◌, Ok}
use Rattle.snesl_data.specs.declared.dialect.Dialect.{Dialect}
use Rattle.snesl_data.specs.operators.Operators.{ranged}
use Rattle.flow_folds.specs.declared.scan_add.Stage.{Stage}
use Rattle.flow_folds.specs.declared.scan_add.Stage.TheVariants.{Start, Flag}

-- a flag comes at this stage
abbrev pub AwaitsFlag : Stage → Type 0
AwaitsFlag Start = Unit {0}
AwaitsFlag (Flag before last) = Unit {0}
AwaitsFlag _ = ⊥

-- a flag comes at this stage, and this is the sum before the element that it stands for
abbrev pub IsNextSum : Dialect → Stage → ℤ → Type 0
IsNextSum dialect Start sum = ranged dialect (pos 0 +ℤ pos 0) ≡ Ok sum
IsNextSum dialect (Flag before last) sum = ranged dialect (before +ℤ last) ≡ Ok sum
IsNextSum dialect _ sum = ⊥

-- these flags with these elements lead from one stage to another, and these are the sums before the elements
abbrev pub SumsAlong : Dialect → Stage → List Bool → List ℤ → List ℤ → Stage → Type 0
SumsAlong dialect s [] [] [] t = s ≡ t
SumsAlong dialect s (true ∷ flags) xs sums t = AwaitsFlag s × SumsAlong dialect Start flags xs sums t
SumsAlong dialect s (false ∷ flags) (x ∷ xs) (sum ∷ sums) t = IsNextSum dialect s sum × SumsAlong dialect (Flag sum x) flags xs sums t
SumsAlong dialect s flags xs sums t = ⊥
