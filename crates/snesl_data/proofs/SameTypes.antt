-- Types that are the same.
use Rattle.std.proofs.Common.{◌≡◌, Bool, true, false, ◌&&◌, refl, sym, ap, ◌∙◌}
use Rattle.snesl_data.specs.Types.{Ty, int, bool, pair, vec, seq, is_same}

pub and_true : {a b : Bool} → a ≡ true → b ≡ true → (a && b) ≡ true
and_true {b = b} e f = ap (λ x. x && b) e ∙ f

pub and_left : (a b : Bool) → (a && b) ≡ true → a ≡ true
and_left true b e = refl
and_left false b e = e

pub and_right : (a b : Bool) → (a && b) ≡ true → b ≡ true
and_right true b e = e
and_right false b e = cc

pub same_self : (t : Ty) → is_same t t ≡ true
same_self int = refl
same_self bool = refl
same_self (pair first second) = and_true (same_self first) (same_self second)
same_self (vec item) = same_self item
same_self (seq item) = same_self item

pub same_eq : (t u : Ty) → is_same t u ≡ true → t ≡ u
same_eq int int e = refl
same_eq bool bool e = refl
same_eq (pair a b) (pair c d) e =
    ap (λ x. pair x b) (same_eq a c (and_left (is_same a c) (is_same b d) e)) ∙ ap (pair c) (same_eq b d (and_right (is_same a c) (is_same b d) e))
same_eq (vec t) (vec u) e = ap vec (same_eq t u e)
same_eq (seq t) (seq u) e = ap seq (same_eq t u e)
same_eq _ _ e = cc

pub same_of : {t u : Ty} → t ≡ u → is_same t u ≡ true
same_of {t = t} e = ap (is_same t) (sym e) ∙ same_self t
