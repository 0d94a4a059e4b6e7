-- Partial functions on lists.
use Rattle.std.specs.Prelude.{ℕ, zero, suc, ◌+◌, Bool, true, false, ◌&&◌, List, [], ◌∷◌, ◌++◌, map, sum, replicate, Option, Some, None, option_map, option_and_then, if◌then◌else◌}
use Rattle.flow_segment.specs.Rows.{alternated}

-- goes on with the value, where there is one
abbrev pub bind : {A B : Type 0} → Option A → (A → Option B) → Option B
bind o next = option_and_then next o

-- the value, where the test is true
abbrev pub only_if : {A : Type 0} → Bool → A → Option A
only_if test x = if test then Some x else None

-- what the function gives for each item, where it gives something for all
abbrev pub each : {A B : Type 0} → (A → Option B) → List A → Option (List B)
each f [] = Some []
each f (x ∷ xs) = bind (f x) (λ y. option_map (λ ys. y ∷ ys) (each f xs))

-- whether two lists are as long as each other, with the same at each place
abbrev pub same_lists : {A : Type 0} → (A → A → Bool) → List A → List A → Bool
same_lists same [] [] = true
same_lists same (x ∷ xs) (y ∷ ys) = same x y && same_lists same xs ys
same_lists same _ _ = false

-- two lists place by place, where they are as long as each other
abbrev pub paired : {A B : Type 0} → List A → List B → Option (List (A × B))
paired [] [] = Some []
paired (x ∷ xs) (y ∷ ys) = option_map (λ ps. (x, y) ∷ ps) (paired xs ys)
paired _ _ = None

-- the first n items, and those after them
abbrev pub front : {A : Type 0} → ℕ → List A → Option (List A × List A)
front zero xs = Some ([], xs)
front (suc n) [] = None
front (suc n) (x ∷ xs) = option_map (λ p. (x ∷ p.0, p.1)) (front n xs)

-- consecutive groups of these lengths, where they are the whole list
abbrev pub cut : {A : Type 0} → List ℕ → List A → Option (List (List A))
cut [] [] = Some []
cut [] (x ∷ xs) = None
cut (n ∷ ns) xs = bind (front n xs) (λ p. option_map (λ groups. p.0 ∷ groups) (cut ns p.1))

-- each item as often as the number beside it
abbrev pub copied : {A : Type 0} → List (ℕ × A) → List A
copied [] = []
copied (p ∷ ps) = replicate p.0 p.1 ++ copied ps

-- each item as often as the number at its place
abbrev pub dist : {A : Type 0} → List ℕ → List A → Option (List A)
dist ns xs = option_map copied (paired ns xs)

-- the items beside which stands true
abbrev pub kept : {A : Type 0} → List (Bool × A) → List A
kept [] = []
kept ((true, x) ∷ ps) = x ∷ kept ps
kept ((false, x) ∷ ps) = kept ps

-- the items at whose places stands true
abbrev pub pack : {A : Type 0} → List Bool → List A → Option (List A)
pack bs xs = option_map kept (paired bs xs)

-- groups of these lengths of both lists, taken alternately
abbrev pub interleave : {A : Type 0} → List ℕ → List ℕ → List A → List A → Option (List A)
interleave ns ms xs ys = bind (cut ns xs) (λ lefts. bind (cut ms ys) (λ rights. option_map alternated (paired lefts rights)))

-- the sum of each group of these lengths
abbrev pub concat_flags : List ℕ → List ℕ → Option (List ℕ)
concat_flags ns ms = option_map (map sum) (cut ns ms)

-- the sums, place by place
abbrev pub append_flags : List ℕ → List ℕ → Option (List ℕ)
append_flags ns ms = option_map (map (λ p. p.0 + p.1)) (paired ns ms)
