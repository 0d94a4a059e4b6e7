-- Segments as flags, and lists of lists.
use Rattle.std.specs.Prelude.{ℕ, zero, suc, List, [], ◌∷◌, ◌++◌, length, true, false}
use Rattle.flow_messages.specs.Cells.{Cell, flag}

-- F, which stands for an element, and T, which ends a segment
abbrev pub F : Cell
F = flag false

abbrev pub T : Cell
T = flag true

-- n times F, then the list
abbrev pub elements : ℕ → List Cell → List Cell
elements zero then_rest = then_rest
elements (suc n) then_rest = F ∷ elements n then_rest

-- for each number n: n times F, then T
abbrev pub flags : List ℕ → List Cell
flags [] = []
flags (n ∷ ns) = elements n (T ∷ flags ns)

-- the lists joined in order
abbrev pub concatenation : {A : Type 0} → List (List A) → List A
concatenation [] = []
concatenation (xs ∷ rest) = xs ++ concatenation rest

abbrev pub lengths : {A : Type 0} → List (List A) → List ℕ
lengths [] = []
lengths (xs ∷ rest) = length xs ∷ lengths rest
