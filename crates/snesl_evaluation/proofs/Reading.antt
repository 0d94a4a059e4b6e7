-- One step over items that are read in order.
use Rattle.std.proofs.Common.{◌≡◌, ℕ, zero, suc, ◌+◌, ◌<◌, ◌≤◌, List, [], ◌∷◌, ◌++◌, map, drop, length, get_or, refl, sym, ap, ◌∙◌, append_assoc, arith}
use Rattle.snesl_data.specs.declared.fault.FaultKind.{FaultKind}
use Rattle.snesl_evaluation.specs.Answer.{Answer, gives, faults, go, go_all, go_join}

-- an answer after what was read
abbrev pub behind : {B : Type 0} → List B → Answer (List B) → Answer (List B)
behind done answer = go answer (λ later. gives (done ++ later))

pub one_more : {B : Type 0} (done : List B) (y : B) (answer : Answer (List B)) → behind done (go answer (λ ys. gives (y ∷ ys))) ≡ behind (done ++ y ∷ []) answer
one_more done y (gives ys) = ap gives (sym (append_assoc done (y ∷ []) ys))
one_more done y (faults kind at) = refl

pub some_more : {B : Type 0} (done ys : List B) (answer : Answer (List B)) → behind done (go answer (λ zs. gives (ys ++ zs))) ≡ behind (done ++ ys) answer
some_more done ys (gives zs) = ap gives (sym (append_assoc done ys zs))
some_more done ys (faults kind at) = refl

pub append_nothing : {B : Type 0} (ys : List B) → ys ++ [] ≡ ys
append_nothing [] = refl
append_nothing (y ∷ ys) = ap (λ zs. y ∷ zs) (append_nothing ys)

module _ {D A B : Type 0} (f : A → Answer B) (view : D → A) where
  -- the item at this place is read
  read_next : (done : List B) (xs : List D) (i : ℕ) (x : D) (y : B) → i < length xs → x ≡ get_or xs i x → f (view x) ≡ gives y
      → behind done (go_all f (map view (drop i xs))) ≡ behind (done ++ y ∷ []) (go_all f (map view (drop (suc i) xs)))
  read_next done [] i x y l is e = absurd (omega arith)
  read_next done (w ∷ xs) zero x y l is e =
      ap (λ answer. behind done (go answer (λ z. go (go_all f (map view xs)) (λ zs. gives (z ∷ zs))))) (ap (λ d. f (view d)) (sym is) ∙ e)
      ∙ one_more done y (go_all f (map view xs))
  read_next done (w ∷ xs) (suc i) x y l is e = read_next done xs i x y (omega arith) is e

  pub read_given : (done : List B) {news : List B} (xs : List D) (i : ℕ) (x : D) (y : B) → i < length xs → x ≡ get_or xs i x → f (view x) ≡ gives y
      → news ≡ done ++ y ∷ [] → behind done (go_all f (map view (drop i xs))) ≡ behind news (go_all f (map view (drop (i + 1) xs)))
  read_given done xs i x y l is e grown =
      let same : suc i ≡ i + 1 = omega arith in
      read_next done xs i x y l is e ∙ ap (λ j. behind (done ++ y ∷ []) (go_all f (map view (drop j xs)))) same
      ∙ ap (λ read. behind read (go_all f (map view (drop (i + 1) xs)))) (sym grown)

  -- the item at this place is not what it is read as
  pub read_faults : (done : List B) (xs : List D) (i : ℕ) (x : D) (kind : FaultKind) (at : ℕ) → i < length xs → x ≡ get_or xs i x → f (view x) ≡ faults kind at
      → behind done (go_all f (map view (drop i xs))) ≡ faults kind at
  read_faults done [] i x kind at l is e = absurd (omega arith)
  read_faults done (w ∷ xs) zero x kind at l is e =
      ap (λ answer. behind done (go answer (λ z. go (go_all f (map view xs)) (λ zs. gives (z ∷ zs))))) (ap (λ d. f (view d)) (sym is) ∙ e)
  read_faults done (w ∷ xs) (suc i) x kind at l is e = read_faults done xs i x kind at (omega arith) is e

  -- no item is left
  pub read_all : (done : List B) (xs : List D) (i : ℕ) → length xs ≤ i → behind done (go_all f (map view (drop i xs))) ≡ gives done
  read_all done [] zero l = ap gives (append_nothing done)
  read_all done [] (suc i) l = ap gives (append_nothing done)
  read_all done (x ∷ xs) zero l = absurd (omega arith)
  read_all done (x ∷ xs) (suc i) l = read_all done xs i (omega arith)

module _ {D A B : Type 0} (f : A → Answer (List B)) (view : D → A) where
  -- the same for items that are joined
  joined_next : (done : List B) (xs : List D) (i : ℕ) (x : D) (ys : List B) → i < length xs → x ≡ get_or xs i x → f (view x) ≡ gives ys
      → behind done (go_join f (map view (drop i xs))) ≡ behind (done ++ ys) (go_join f (map view (drop (suc i) xs)))
  joined_next done [] i x ys l is e = absurd (omega arith)
  joined_next done (w ∷ xs) zero x ys l is e =
      ap (λ answer. behind done (go answer (λ z. go (go_join f (map view xs)) (λ zs. gives (z ++ zs))))) (ap (λ d. f (view d)) (sym is) ∙ e)
      ∙ some_more done ys (go_join f (map view xs))
  joined_next done (w ∷ xs) (suc i) x ys l is e = joined_next done xs i x ys (omega arith) is e

  pub joined_given : (done : List B) {news : List B} (xs : List D) (i : ℕ) (x : D) (ys : List B) → i < length xs → x ≡ get_or xs i x → f (view x) ≡ gives ys
      → news ≡ done ++ ys → behind done (go_join f (map view (drop i xs))) ≡ behind news (go_join f (map view (drop (i + 1) xs)))
  joined_given done xs i x ys l is e grown =
      let same : suc i ≡ i + 1 = omega arith in
      joined_next done xs i x ys l is e ∙ ap (λ j. behind (done ++ ys) (go_join f (map view (drop j xs)))) same
      ∙ ap (λ read. behind read (go_join f (map view (drop (i + 1) xs)))) (sym grown)

  pub joined_faults : (done : List B) (xs : List D) (i : ℕ) (x : D) (kind : FaultKind) (at : ℕ) → i < length xs → x ≡ get_or xs i x → f (view x) ≡ faults kind at
      → behind done (go_join f (map view (drop i xs))) ≡ faults kind at
  joined_faults done [] i x kind at l is e = absurd (omega arith)
  joined_faults done (w ∷ xs) zero x kind at l is e =
      ap (λ answer. behind done (go answer (λ z. go (go_join f (map view xs)) (λ zs. gives (z ++ zs))))) (ap (λ d. f (view d)) (sym is) ∙ e)
  joined_faults done (w ∷ xs) (suc i) x kind at l is e = joined_faults done xs i x kind at (omega arith) is e

  pub joined_all : (done : List B) (xs : List D) (i : ℕ) → length xs ≤ i → behind done (go_join f (map view (drop i xs))) ≡ gives done
  joined_all done [] zero l = ap gives (append_nothing done)
  joined_all done [] (suc i) l = ap gives (append_nothing done)
  joined_all done (x ∷ xs) zero l = absurd (omega arith)
  joined_all done (x ∷ xs) (suc i) l = joined_all done xs i (omega arith)
