-- Lists by ports: what a change of one leaves.
use Rattle.std.specs.Prelude.{◌≡◌, ◌≢◌, ℕ, zero, suc, ◌<◌, List, [], ◌∷◌, ◌⊎◌, refl}
use Rattle.std.proofs.Common.{inl, inr, sym, ◌∙◌, ap, subst, arith}
use Rattle.std.proofs.Math.Path.{fun_ext}
use Rattle.std.proofs.lemmas.Bool.Decides.{eqb_tells}
use Rattle.flow_base.specs.Lists.{Lists, push, with_port, NothingAt, First}

-- the lists, one for each port
abbrev pub each_port : {A : Type 0} → List (List A) → Lists A
each_port [] p = []
each_port (l ∷ ls) zero = l
each_port (l ∷ ls) (suc p) = each_port ls p

pub ports : (q p : ℕ) → (q ≡ p) ⊎ (q ≢ p)
ports q p = elim (eqb_tells q p) [ inl h ↦ inl h.1 | inr h ↦ inr h.1 ]

pub at_port : {A : Type 0} (p : ℕ) (xs : List A) (all : Lists A) → with_port p xs all p ≡ xs
at_port p xs all = elim (eqb_tells p p) [ inl h ↦ rw h.0 refl | inr h ↦ absurd (h.1 refl) ]

pub off_port : {A : Type 0} (p q : ℕ) (xs : List A) (all : Lists A) → q ≢ p → with_port p xs all q ≡ all q
off_port p q xs all n = elim (eqb_tells q p) [ inl h ↦ absurd (n h.1) | inr h ↦ rw h.0 refl ]

-- what holds at p and at each other port holds at each
pub by_port : (P : ℕ → Type 0) (p : ℕ) → P p → ((q : ℕ) → q ≢ p → P q) → (q : ℕ) → P q
by_port P p here there q = elim (ports q p) [ inl e ↦ subst P (sym e) here | inr n ↦ there q n ]

-- what was taken in front is put back
pub put_back : {A : Type 0} (p : ℕ) (x : A) (rest : List A) (all : Lists A) → all p ≡ x ∷ rest → push p x (with_port p rest all) ≡ all
put_back p x rest all e =
    let less = with_port p rest all in
    fun_ext (by_port (λ q. push p x less q ≡ all q) p
    (at_port p (x ∷ less p) less ∙ ap (λ r. x ∷ r) (at_port p rest all) ∙ sym e)
    (λ q n. off_port p q (x ∷ less p) less n ∙ off_port p q rest all n))

-- what was put in front is taken away
pub take_away : {A : Type 0} (p : ℕ) (x : A) (all : Lists A) → with_port p (all p) (push p x all) ≡ all
take_away p x all =
    let larger = push p x all in
    fun_ext (by_port (λ q. with_port p (all p) larger q ≡ all q) p
    (at_port p (all p) larger)
    (λ q n. off_port p q (all p) larger n ∙ off_port p q (x ∷ all p) all n))

pub nothing_at : {A : Type 0} (n : ℕ) (xs : Lists A) → NothingAt n xs → (p : ℕ) → p < n → xs p ≡ []
nothing_at zero xs h p lt = absurd (omega arith)
nothing_at (suc n) xs h p lt = elim (ports p n) [ inl e ↦ ap xs e ∙ h.1 | inr ne ↦ nothing_at n xs h.0 p (omega arith) ]

pub NothingAt-from : {A : Type 0} (n : ℕ) (xs : Lists A) → ((p : ℕ) → p < n → xs p ≡ []) → NothingAt n xs
NothingAt-from zero xs h = tt
NothingAt-from (suc n) xs h = (NothingAt-from n xs (λ p lt. h p (omega arith)), h n (omega arith))

-- a first item, with the list that it is in
pub first_of_list : {A : Type 0} (xs : List A) (P : A → List A → Type 0) → First xs P → (x : A) × (rest : List A) × (xs ≡ x ∷ rest) × P x rest
first_of_list [] P h = absurd h
first_of_list (x ∷ rest) P h = (x, rest, refl, h)

pub First-from : {A : Type 0} (xs : List A) (x : A) (rest : List A) (P : A → List A → Type 0) → xs ≡ x ∷ rest → P x rest → First xs P
First-from xs x rest P e h = subst (λ l. First l P) (sym e) h
