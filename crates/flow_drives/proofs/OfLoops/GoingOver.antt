-- Lists of which the first element goes over to another list.
use Rattle.std.proofs.Common.{◌≡◌, List, [], ◌∷◌, ◌++◌, map, refl, sym, ◌∙◌, ap, subst}
use Rattle.std.specs.List.{AllZip}

pushed : {A : Type 0} (made rest : List A) (y : A) → (made ++ y ∷ []) ++ rest ≡ made ++ y ∷ rest
pushed [] rest y = refl
pushed (x ∷ made) rest y = ap (λ ys. x ∷ ys) (pushed made rest y)

map_pushed : {A B : Type 0} (f : A → B) (made : List A) (y : A) → map f (made ++ y ∷ []) ≡ map f made ++ f y ∷ []
map_pushed f [] y = refl
map_pushed f (x ∷ made) y = ap (λ ys. f x ∷ ys) (map_pushed f made y)

-- the first of those that are left goes after those that were made
pub goes_over : {A : Type 0} (made now left rest : List A) (y : A) (all : List A) → now ≡ made ++ y ∷ [] → left ≡ y ∷ rest → made ++ left ≡ all → now ++ rest ≡ all
goes_over made now left rest y all longer is whole = ap (λ ys. ys ++ rest) longer ∙ pushed made rest y ∙ ap (λ ys. made ++ ys) (sym is) ∙ whole

-- and so it does where only f of what was made is seen
pub goes_over_as : {A B : Type 0} (f : A → B) (made now : List A) (y : A) (left rest : List B) (z : B) (all : List B) → now ≡ made ++ y ∷ [] → f y ≡ z
    → left ≡ z ∷ rest → map f made ++ left ≡ all → map f now ++ rest ≡ all
goes_over_as f made now y left rest z all longer same is whole =
    goes_over (map f made) (map f now) left rest z all (ap (map f) longer ∙ map_pushed f made y ∙ ap (λ x. map f made ++ x ∷ []) same) is whole

-- where two lists fit, their first elements fit and the rest of them
pub first_and_rest : {A B : Type 0} (R : A → B → Type 0) (xs rest : List A) (ys others : List B) (x : A) (y : B) → xs ≡ x ∷ rest → ys ≡ y ∷ others → AllZip R xs ys → R x y × AllZip R rest others
first_and_rest R xs rest ys others x y is are each = subst (λ l. AllZip R (x ∷ rest) l) are (subst (λ l. AllZip R l ys) is each)
