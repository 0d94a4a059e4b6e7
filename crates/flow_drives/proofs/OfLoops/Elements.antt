-- What holds of all elements of a list, and of all results.
use Rattle.std.proofs.Common.{◌≡◌, ℕ, zero, suc, ◌<◌, List, [], ◌∷◌, ◌++◌, length, map, get_or, sym, ◌∙◌, ap, subst, arith}
use Rattle.std.proofs.lemmas.List.{get_or-map, length-map}
use Rattle.std.specs.Prelude.{Result, Ok, Err, IfOk}
use Rattle.std.specs.List.{All, AllZip}
use Rattle.flow_shares.proofs.OfMeetings.Lists.{all_zipped}

module _ {A : Type 0} (P : A → Type 0) (xs rest : List A) (x : A) (is : xs ≡ x ∷ rest) (each : All P xs) where
  theirs : All P (x ∷ rest)
  theirs = subst (λ (l : List A). All P l) is each

  pub first_of_all : P x
  first_of_all = theirs 0 x (omega arith)

  pub rest_of_all : All P rest
  rest_of_all k d l = theirs (suc k) d (omega (arith, l))

module _ {A : Type 0} (P : A → Type 0) where
  all_pushed : (made : List A) (y : A) → All P made → P y → All P (made ++ y ∷ [])
  all_pushed [] y each last zero d l = last
  all_pushed [] y each last (suc k) d l = absurd (omega (arith, l))
  all_pushed (x ∷ made) y each last zero d l = each 0 d (omega arith)
  all_pushed (x ∷ made) y each last (suc k) d l = all_pushed made y (λ j e low. each (suc j) e (omega (arith, low))) last k d (omega (arith, l))

  -- what holds of all that were made, and of the next, holds of all
  pub all_more : (made now : List A) (y : A) → now ≡ made ++ y ∷ [] → All P made → P y → All P now
  all_more made now y longer each last = subst (λ (l : List A). All P l) (sym longer) (all_pushed made y each last)

-- what elements are to those that they were, they are whatever those were part of
pub zip_parts : {A B : Type 0} (R : B → B → Type 0) (own : A → B) (parts : List A) (ends now : List B) → ends ≡ map own parts → length now ≡ length ends
    → ((k : ℕ) (d : B) → k < length ends → R (get_or ends k d) (get_or now k d)) → AllZip (λ part mine. R (own part) mine) parts now
zip_parts {A} {B} R own parts ends now is same holds = all_zipped _ parts now (same ∙ long) each
  where
    long : length ends ≡ length parts
    long = ap length is ∙ length-map parts own

    each : (k : ℕ) (p : A) (b : B) → k < length parts → R (own (get_or parts k p)) (get_or now k b)
    each k p b l = subst (λ (a : B). R a (get_or now k b)) (ap (λ xs. get_or xs k b) is ∙ get_or-map own parts k p b l) (holds k b (omega (arith, l, long)))

-- what four facts of a result say together
pub four_of_ok : {A E : Type 0} (r : Result A E) {P Q R S Z : A → Type 0} → IfOk r P → IfOk r Q → IfOk r R → IfOk r S → ((a : A) → P a → Q a → R a → S a → Z a) → IfOk r Z
four_of_ok (Ok a) p q s t all = all a p q s t
four_of_ok (Err e) p q s t all = tt
