-- Lists that are the same, entry by entry.
use Rattle.std.proofs.Common.{◌≡◌, ◌↔◌, ℕ, zero, suc, ◌+◌, ◌<◌, ◌≤◌, List, [], ◌∷◌, length, map, drop, get_or, refl, sym, ap, ◌∙◌, subst, arith, length-drop}

-- from a place on the lists are the same exactly where the entries there are, and those after them
pub same_on : {A B : Type 0} (f : A → B) (xs ys : List A) (i : ℕ) (x y : A) → i < length xs → i < length ys → x ≡ get_or xs i x → y ≡ get_or ys i y
    → (map f (drop i xs) ≡ map f (drop i ys)) ↔ ((f x ≡ f y) × (map f (drop (i + 1) xs) ≡ map f (drop (i + 1) ys)))
same_on f [] ys i x y lt below p q = absurd (omega arith)
same_on f (a ∷ xs) [] i x y lt below p q = absurd (omega arith)
same_on f (a ∷ xs) (b ∷ ys) zero x y lt below p q = (
  (λ e.
      let head : f a ≡ f b = cc in
      let rest : map f xs ≡ map f ys = cc in
      (ap f p ∙ head ∙ ap f (sym q), rest)),
  (λ h. let head : f a ≡ f b = ap f (sym p) ∙ h.0 ∙ ap f q in let rest : map f xs ≡ map f ys = h.1 in cc),
)
same_on f (a ∷ xs) (b ∷ ys) (suc i) x y lt below p q =
    let next : suc i + 1 ≡ suc (i + 1) = omega arith in
    subst (λ n. (map f (drop i xs) ≡ map f (drop i ys)) ↔ ((f x ≡ f y) × (map f (drop n (a ∷ xs)) ≡ map f (drop n (b ∷ ys)))))
    (sym next) (same_on f xs ys i x y (omega arith) (omega arith) p q)

-- lists of different lengths differ
pub other_length : {A B : Type 0} (f : A → B) (xs ys : List A) → ¬ (length xs ≡ length ys) → ¬ (map f xs ≡ map f ys)
other_length f [] [] n e = n refl
other_length f [] (y ∷ ys) n e = cc
other_length f (x ∷ xs) [] n e = cc
other_length f (x ∷ xs) (y ∷ ys) n e = let rest : map f xs ≡ map f ys = cc in other_length f xs ys (λ same. n (ap suc same)) rest

-- nothing stands after the end
pub none_after : {A B : Type 0} (f : A → B) (xs : List A) (n : ℕ) → length xs ≤ n → map f (drop n xs) ≡ []
none_after {A = A} f xs n h = by_length (drop n xs) (omega (arith, length-drop n xs))
  where
    by_length : (ys : List A) → length ys ≡ 0 → map f ys ≡ []
    by_length [] e = refl
    by_length (y ∷ ys) e = absurd (omega arith)
