-- How the distance of two names follows from those of shorter ones.
use Rattle.std.proofs.Common.{◌≡◌, ℕ, zero, suc, ◌+◌, ◌<◌, ◌≤◌, ◌++◌, List, [], ◌∷◌, arith, length, length-append, min, nat_eq, refl}
use Rattle.strsim.specs.Edits.{cost, cost_at, levenshtein_row, next_row, rows}
use Rattle.strsim.proofs.EditLemmas.{cell_step, row_first, row_none}
use Rattle.snesl_look.specs.Names.{distance}

-- a byte more at the end changes no cost before it
cost_before : (x y : ℕ) (ys : List ℕ) (j : ℕ) → j < length ys → cost_at nat_eq x (ys ++ y ∷ []) j ≡ cost_at nat_eq x ys j
unfolding cost_at
cost_before x y [] j within = absurd (omega (arith, within))
cost_before x y (z ∷ ys) zero within = refl
cost_before x y (z ∷ ys) (suc j) within = cost_before x y ys j (omega (arith, within))

-- and has its own cost
cost_last : (x y : ℕ) (ys : List ℕ) → cost_at nat_eq x (ys ++ y ∷ []) (length ys) ≡ cost nat_eq x y
unfolding cost_at
cost_last x y [] = refl
cost_last x y (z ∷ ys) = cost_last x y ys

-- a row up to a place, by the costs before it and the row before it up to there
next_before : (costs same_costs before same : ℕ → ℕ) (first end : ℕ) → ((k : ℕ) → k < end → costs k ≡ same_costs k)
    → ((k : ℕ) → k ≤ end → before k ≡ same k) → (j : ℕ) → j ≤ end → next_row costs before first j ≡ next_row same_costs same first j
unfolding next_row
next_before costs same_costs before same first end alike equal zero within = refl
next_before costs same_costs before same first end alike equal (suc j) within =
    let left = next_before costs same_costs before same first end alike equal j (omega (arith, within)) in
    let here = alike j (omega (arith, within)) in
    let above = equal j (omega (arith, within)) in
    let over = equal (suc j) within in
    rw (left, here, above, over) refl

-- so a byte more at the end changes nothing before it
rows_before : (xs ys : List ℕ) (y n : ℕ) (before same : ℕ → ℕ) → ((k : ℕ) → k ≤ length ys → before k ≡ same k) → (j : ℕ) → j ≤ length ys
    → rows nat_eq xs (ys ++ y ∷ []) n before j ≡ rows nat_eq xs ys n same j
unfolding rows
rows_before [] ys y n before same equal j within = equal j within
rows_before (x ∷ xs) ys y n before same equal j within =
    rows_before xs ys y (suc n) (next_row (cost_at nat_eq x (ys ++ y ∷ [])) before (suc n)) (next_row (cost_at nat_eq x ys) same (suc n))
    (next_before (cost_at nat_eq x (ys ++ y ∷ [])) (cost_at nat_eq x ys) before same (suc n) (length ys) (cost_before x y ys) equal) j within

-- the distance from a longer name
before_last : (xs ys : List ℕ) (y : ℕ) → levenshtein_row nat_eq xs (ys ++ y ∷ []) (length ys) ≡ distance xs ys
before_last xs ys y = rows_before xs ys y 0 (λ j. j) (λ j. j) (λ k within. refl) (length ys) (omega arith)

-- from none to a name each byte is put in
pub from_none : (to : List ℕ) → distance [] to ≡ length to
from_none to = row_none nat_eq to (length to)

-- from a name to none each byte is taken out
pub to_none : (from : List ℕ) → distance from [] ≡ length from
to_none from = omega (arith, row_first nat_eq from [] 0 (λ j. j) refl)

-- the distance of two names by those of the names without their last bytes
pub last_bytes : (from to : List ℕ) (x y : ℕ) → distance (from ++ x ∷ []) (to ++ y ∷ [])
    ≡ min (distance (from ++ x ∷ []) to + 1) (min (distance from to + cost nat_eq x y) (distance from (to ++ y ∷ []) + 1))
last_bytes from to x y =
    let long : length (to ++ y ∷ []) ≡ suc (length to) = omega (arith, length-append to (y ∷ [])) in
    let step = cell_step nat_eq from (to ++ y ∷ []) x (length to) in
    let known = rw (before_last (from ++ x ∷ []) to y, before_last from to y, cost_last x y to) at step in
    rw long known
