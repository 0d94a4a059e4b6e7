-- What Length makes of blocks of flags.
use Rattle.std.specs.Prelude.{◌≡◌, ℕ, suc, ℤ, pos, Bool, true, false, List, [], ◌∷◌}

-- after so many elements, the lengths of the segments that end along these flags, and how many elements came at last
abbrev pub LengthsAlong : ℕ → List Bool → List ℤ → ℕ → Type 0
LengthsAlong n [] [] more = n ≡ more
LengthsAlong n (false ∷ flags) lengths more = LengthsAlong (suc n) flags lengths more
LengthsAlong n (true ∷ flags) (l ∷ lengths) more = (pos n ≡ l) × LengthsAlong 0 flags lengths more
LengthsAlong n flags lengths more = ⊥
