-- Bytes that are written or read piece by piece.
use Rattle.std.proofs.Common.{◌≡◌, ℕ, ◌<◌, ◌-◌, ◌&&◌, ◌==◌, nat_lt, length, take, drop, List, [], ◌++◌, Option, Some, None, refl, sym, ap, ◌∙◌, append_assoc, append-nil, arith, ⊎_elim, false}
use Rattle.std.proofs.lemmas.Bool.Decides.{eqb_tells}
use Rattle.std.proofs.lemmas.List.{length-drop, take-append-drop}
use Rattle.std.proofs.Math.Seq.{take-length}
use Rattle.std.specs.Io.KnownBytes.{Appends, Keeps, Consumes}
use Rattle.snesl_data.specs.Counted.{one_more, counted, HasFailed}

pub appends_none : (a : Option (List ℕ)) → Appends a a []
appends_none None = tt
appends_none (Some xs) = sym (append-nil xs)

pub appends_more : (a b c : Option (List ℕ)) (xs ys : List ℕ) → Appends a b xs → Appends b c ys → Appends a c (xs ++ ys)
appends_more None b c xs ys p q = tt
appends_more (Some us) None c xs ys p q = absurd p
appends_more (Some us) (Some vs) None xs ys p q = absurd q
appends_more (Some us) (Some vs) (Some ws) xs ys p q = q ∙ ap (λ l. l ++ ys) p ∙ append_assoc us xs ys

pub appends_kept : (a b c : Option (List ℕ)) (xs : List ℕ) → Appends a b xs → Keeps b c → Appends a c xs
appends_kept None b c xs p q = tt
appends_kept (Some us) None c xs p q = absurd p
appends_kept (Some us) (Some vs) None xs p q = absurd q
appends_kept (Some us) (Some vs) (Some ws) xs p q = q ∙ p

pub consumes_none : (a : Option (List ℕ)) → Consumes a a []
consumes_none None = tt
consumes_none (Some xs) = refl

pub consumes_more : (a b c : Option (List ℕ)) (xs ys : List ℕ) → Consumes a b xs → Consumes b c ys → Consumes a c (xs ++ ys)
consumes_more None b c xs ys p q = tt
consumes_more (Some us) None c xs ys p q = absurd p
consumes_more (Some us) (Some vs) None xs ys p q = absurd q
consumes_more (Some us) (Some vs) (Some ws) xs ys p q = p ∙ ap (λ l. xs ++ l) q ∙ sym (append_assoc xs ys ws)

-- one call failed, where none had before
pub failed_once : (n m k : ℕ) → m ≡ n → k ≡ one_more m → HasFailed n k
failed_once n m k e f = f ∙ ap one_more e

-- what `&s[n..]` holds
pub rest_is : (l : List ℕ) (n : ℕ) → take (length l - n) (drop n l) ≡ drop n l
rest_is l n = let e : length l - n ≡ length (drop n l) = sym (length-drop n l) in ap (λ k. take k (drop n l)) e ∙ take-length (drop n l)

pub moved_on : (bytes front rest : List ℕ) (n : ℕ) → bytes ≡ front ++ rest → bytes ≡ (front ++ take n rest) ++ take (length rest - n) (drop n rest)
moved_on bytes front rest n e =
    e ∙ ap (λ l. front ++ l) (sym (take-append-drop n rest) ∙ ap (λ l. take n rest ++ l) (sym (rest_is rest n)))
    ∙ sym (append_assoc front (take n rest) (take (length rest - n) (drop n rest)))

not_zero : (n : ℕ) → 0 < n → (n == 0) ≡ false
not_zero n h = ⊎_elim (λ p. absurd (let e = p.1 in omega arith)) (λ p. p.0) (eqb_tells n 0)

-- a write that takes something is no failure
pub not_counted : (before n len after : ℕ) → 0 < n → after ≡ counted before (n == 0 && nat_lt 0 len) → after ≡ before
not_counted before n len after h e =
    e ∙ ap (λ t. counted before (t && nat_lt 0 len)) (not_zero n h)
