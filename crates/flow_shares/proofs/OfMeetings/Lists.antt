-- Lists that are mapped, written over one another, or of one length; and sums.
use Rattle.std.proofs.Common.{◌≡◌, ℕ, zero, suc, ◌<◌, List, [], ◌∷◌, ◌++◌, length, map, take, drop, get_or, append-nil, refl, ap, ◌∙◌, arith}
use Rattle.std.proofs.lemmas.List.{take_all, drop_all}
use Rattle.std.specs.List.{AllZip}
use Rattle.kahn.specs.Basics.{total}

-- a list that is mapped twice
pub mapped_twice : {A B C : Type 0} (g : B → C) (f : A → B) (xs : List A) → map g (map f xs) ≡ map (λ x. g (f x)) xs
mapped_twice g f [] = refl
mapped_twice g f (x ∷ xs) = ap (λ ys. g (f x) ∷ ys) (mapped_twice g f xs)

-- a list that was written over one of its length
pub written_back : {A : Type 0} (now old : List A) (n : ℕ) → length now ≡ length old → n ≡ length old → take n (now ++ drop (length now) old) ≡ now
written_back now old n even long =
    ap (λ l. take n (now ++ l)) (ap (λ m. drop m old) even ∙ drop_all (length old) old (omega arith))
    ∙ ap (take n) (append-nil now) ∙ take_all n now (omega (arith, even, long))

-- what holds place by place holds of two lists of one length
pub all_zipped : {A B : Type 0} (R : A → B → Type 0) (xs : List A) (ys : List B) → length ys ≡ length xs →
    ((k : ℕ) (x : A) (y : B) → k < length xs → R (get_or xs k x) (get_or ys k y)) → AllZip R xs ys
all_zipped R [] [] long each = tt
all_zipped R [] (y ∷ ys) long each = absurd (omega (arith, long))
all_zipped R (x ∷ xs) [] long each = absurd (omega (arith, long))
all_zipped R (x ∷ xs) (y ∷ ys) long each = (each 0 x y (omega arith), all_zipped R xs ys (omega (arith, long)) (λ k a b l. each (suc k) a b (omega (arith, l))))

-- a sum of which each part is nothing
pub total_none : (f : ℕ → ℕ) (n : ℕ) → ((e : ℕ) → e < n → f e ≡ 0) → total f n ≡ 0
total_none f zero none = refl
total_none f (suc n) none = omega (arith, none n (omega arith), total_none f n (λ e l. none e (omega (arith, l))))
