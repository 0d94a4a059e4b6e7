-- Lists of which one was given, and the other comes back, place by place.
use Rattle.std.proofs.Common.{◌≡◌, ℕ, ◌+◌, ◌<◌, List, [], ◌∷◌, ◌++◌, map, drop, length, get_or, refl, sym, ap, ◌∙◌, arith, below_more, length-append, length-drop}
use Rattle.std.proofs.lemmas.List.{drop_more, get_or_append_left, get_or_push}

module _ {W X : Type 0} (given : W → X) (xs : List X) where
  -- the first of those that are left stands next
  pub next_given : (n : ℕ) (ws later : List W) (w : W) → map given ws ≡ drop n xs → ws ≡ w ∷ later
      → (n < length xs) × ((d : X) → get_or xs n d ≡ given w) × (map given later ≡ drop (n + 1) xs)
  next_given n ws later w left is =
      let all : given w ∷ map given later ≡ drop n xs = sym (ap (map given) is) ∙ left in
      let inside : n < length xs = omega (arith, ap length all, length-drop n xs) in
      (inside, (λ d. let more = all ∙ drop_more xs n d inside in cc), (let more = all ∙ drop_more xs n (given w) inside in cc))

module _ {X : Type 0} (R : X → X → Type 0) (xs : List X) where
  -- what holds at each place still does with one place more
  pub each_more : (ys : List X) (y : X) → ((k : ℕ) (d : X) → k < length ys → R (get_or xs k d) (get_or ys k d)) → ((d : X) → R (get_or xs (length ys) d) y)
      → (k : ℕ) (d : X) → k < length (ys ++ y ∷ []) → R (get_or xs k d) (get_or (ys ++ y ∷ []) k d)
  each_more ys y each here k d below =
      below_more (λ i. R (get_or xs i d) (get_or (ys ++ y ∷ []) i d)) (length ys)
      (λ i low. rw (get_or_append_left ys (y ∷ []) d i low) (each i d low))
      (rw (get_or_push ys y d (length ys) refl) (here d))
      k (omega (arith, length-append ys (y ∷ [])))
