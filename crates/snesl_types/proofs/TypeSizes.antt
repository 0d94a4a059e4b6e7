-- Sizes of types, and types that are the same.
use Rattle.std.proofs.Common.{◌≡◌, ◌<◌, arith, Bool, true, false, ◌&&◌, List, [], ◌∷◌, length, map, ap, refl, suc}
use Rattle.snesl_data.specs.Types.{Ty, int, bool, pair, vec, seq, is_same}
use Rattle.snesl_types.specs.Sizes.{type_size}
use Rattle.snesl_types.specs.Verdicts.{are_same}

pub type_size_positive : (t : Ty) → 0 < type_size t
type_size_positive int = omega arith
type_size_positive bool = omega arith
type_size_positive (pair first second) = omega arith
type_size_positive (vec item) = omega arith
type_size_positive (seq item) = omega arith

-- lists of different lengths differ
pub differ_in_length : {A B C : Type 0} (f : A → Ty) (g : B → C) (h : C → Ty) (xs : List A) (ys : List B) → ¬ (length xs ≡ length ys)
    → false ≡ are_same (map f xs) (map h (map g ys))
differ_in_length f g h [] [] n = absurd (n refl)
differ_in_length f g h [] (y ∷ ys) n = refl
differ_in_length f g h (x ∷ xs) [] n = refl
differ_in_length f g h (x ∷ xs) (y ∷ ys) n = by_test (is_same (f x) (h (g y))) (differ_in_length f g h xs ys (λ e. n (ap suc e)))
  where
    by_test : (b : Bool) → false ≡ are_same (map f xs) (map h (map g ys)) → false ≡ (b && are_same (map f xs) (map h (map g ys)))
    by_test true e = e
    by_test false e = refl
