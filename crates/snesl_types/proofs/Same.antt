-- Types that are the same.
use Rattle.std.proofs.Common.{◌≡◌, Bool, true, false, List, [], ◌∷◌, refl, ap, ◌∙◌}
use Rattle.snesl_data.specs.Types.{Ty, is_same}
use Rattle.snesl_data.proofs.SameTypes.{and_true, and_left, and_right, same_self, same_eq, same_of}
use Rattle.snesl_types.specs.Typing.{AllAre}
use Rattle.snesl_types.specs.Verdicts.{are_same, all_same}

pub not_true : {b : Bool} → ¬ (b ≡ true) → b ≡ false
not_true {b = true} n = absurd (n refl)
not_true {b = false} n = refl

pub are_same_self : (ts : List Ty) → are_same ts ts ≡ true
are_same_self [] = refl
are_same_self (t ∷ ts) = and_true (same_self t) (are_same_self ts)

pub are_same_eq : (ts us : List Ty) → are_same ts us ≡ true → ts ≡ us
are_same_eq [] [] e = refl
are_same_eq (t ∷ ts) (u ∷ us) e =
    ap (λ x. x ∷ ts) (same_eq t u (and_left (is_same t u) (are_same ts us) e)) ∙ ap (λ xs. u ∷ xs) (are_same_eq ts us (and_right (is_same t u) (are_same ts us) e))
are_same_eq _ _ e = cc

pub all_same_of : (t : Ty) (ts : List Ty) → AllAre t ts → all_same t ts ≡ true
all_same_of t [] h = refl
all_same_of t (u ∷ us) h = and_true (same_of h.0) (all_same_of t us h.1)

pub all_same_are : (t : Ty) (ts : List Ty) → all_same t ts ≡ true → AllAre t ts
all_same_are t [] e = tt
all_same_are t (u ∷ us) e = (same_eq u t (and_left (is_same u t) (all_same t us) e), all_same_are t us (and_right (is_same u t) (all_same t us) e))
