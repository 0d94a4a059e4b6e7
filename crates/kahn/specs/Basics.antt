-- Beginnings of lists, sums below a bound, and functions that were changed at one number.
use Rattle.std.specs.Prelude.{◌≡◌, ℕ, zero, suc, ◌+◌, eqb, cond, List, ◌++◌}

-- the second list is the first followed by some list
abbrev pub Begins : {X : Type 0} → List X → List X → Type 0
Begins {X} xs ys = (rest : List X) × (xs ++ rest ≡ ys)

-- f 0 + .. + f (n - 1)
abbrev pub total : (ℕ → ℕ) → ℕ → ℕ
total f zero = 0
total f (suc n) = f n + total f n

-- the function f with the value x at the number i
abbrev pub updated : {X : Type 0} → (ℕ → X) → ℕ → X → ℕ → X
updated f i x j = cond (eqb j i) x (f j)
