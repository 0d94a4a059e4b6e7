-- Lists that grow side by side, and those that are written over.
use Rattle.std.proofs.Common.{◌≡◌, ℕ, ◌+◌, ◌<◌, List, [], ◌∷◌, ◌++◌, length, take, drop, get_or, append-nil, ap, sym, subst, ◌∙◌, arith}
use Rattle.std.proofs.lemmas.List.{take_all, take_more, drop_all}
use Rattle.std.specs.List.{AllZip}

-- what holds at each place holds with one more at the end of both
pub zip_push : {A B : Type 0} (R : A → B → Type 0) (xs : List A) (ys : List B) (x : A) (y : B) → AllZip R xs ys → R x y → AllZip R (xs ++ x ∷ []) (ys ++ y ∷ [])
zip_push R [] [] x y h r = (r, tt)
zip_push R [] (b ∷ ys) x y h r = absurd h
zip_push R (a ∷ xs) [] x y h r = absurd h
zip_push R (a ∷ xs) (b ∷ ys) x y h r = (h.0, zip_push R xs ys x y h.1 r)

-- and so of the first so many, and one more of them
pub zip_more : {A B : Type 0} (R : A → B → Type 0) (xs : List A) (ys : List B) (n : ℕ) (d : A) (y : B) → n < length xs
    → AllZip R (take n xs) ys → R (get_or xs n d) y → AllZip R (take (n + 1) xs) (ys ++ y ∷ [])
zip_more R xs ys n d y inside h r = subst (λ l. AllZip R l (ys ++ y ∷ [])) (sym (take_more xs n d inside)) (zip_push R (take n xs) ys (get_or xs n d) y h r)

-- a list that was written over one of its length
pub written_back : {A : Type 0} (now old : List A) (n : ℕ) → length now ≡ length old → n ≡ length old → take n (now ++ drop (length now) old) ≡ now
written_back now old n even long =
    ap (λ l. take n (now ++ l)) (ap (λ m. drop m old) even ∙ drop_all (length old) old (omega arith))
    ∙ ap (take n) (append-nil now) ∙ take_all n now (omega (arith, even, long))
