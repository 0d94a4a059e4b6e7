-- Flags of segments, joined.
use Rattle.std.specs.Prelude.{◌≡◌, ℕ, zero, suc, ◌+◌, List, [], ◌∷◌, ◌++◌, refl}
use Rattle.std.proofs.Common.{arith, ◌∙◌, ap}
use Rattle.flow_messages.specs.Cells.{Cell}
use Rattle.flow_base.specs.Flags.{F, T, elements}

-- the lists of each in order
abbrev pub concatenation_by : {A B : Type 0} → (A → List B) → List A → List B
concatenation_by f [] = []
concatenation_by f (x ∷ xs) = f x ++ concatenation_by f xs

-- flags are those of the segments, one after another
pub elements-append : (n : ℕ) (rest : List Cell) → elements n (T ∷ []) ++ rest ≡ elements n (T ∷ rest)
elements-append zero rest = refl
elements-append (suc n) rest = ap (λ l. F ∷ l) (elements-append n rest)

pub elements-add : (m n : ℕ) (rest : List Cell) → elements (m + n) rest ≡ elements m (elements n rest)
elements-add zero n rest = ap (λ k. elements k rest) (omega arith)
elements-add (suc m) n rest = let e : suc m + n ≡ suc (m + n) = omega arith in ap (λ k. elements k rest) e ∙ ap (λ l. F ∷ l) (elements-add m n rest)
