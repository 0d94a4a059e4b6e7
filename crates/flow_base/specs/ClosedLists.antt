-- Closed lists by ports, and lists of ends alone: what a message less, or more, in front leaves.
use Rattle.std.specs.Prelude.{◌≡◌, ℕ, ◌+◌, ◌<◌, List, [], ◌∷◌, true, false, cond, nat_lt, refl}
use Rattle.std.proofs.Common.{inl, inr, sym, ◌∙◌, ap, arith}
use Rattle.std.proofs.lemmas.Bool.Decides.{nat_tests}
use Rattle.flow_messages.specs.Cells.{Cell}
use Rattle.flow_messages.specs.Signals.{Signal, carry, stop}
use Rattle.flow_base.specs.Lists.{Lists, push, with_port, HasFirst}
use Rattle.flow_base.specs.Ports.{ports, at_port, off_port, First-from}
use Rattle.flow_base.specs.Transducers.{closed}

-- the lists at the first n ports are the closed lists of these bodies
abbrev pub AreClosed : ℕ → Lists Signal → Lists Cell → Type 0
AreClosed n xs bodies = (p : ℕ) → p < n → xs p ≡ closed (bodies p)

-- at each of the first n ports: nothing below p, and the end alone from p on
abbrev pub EndsFrom : ℕ → ℕ → Lists Signal → Type 0
EndsFrom p n xs = (r : ℕ) → r < n → xs r ≡ cond (nat_lt r p) [] (stop ∷ [])

pub closed_full : (xs : List Signal) (body : List Cell) → xs ≡ closed body → HasFirst xs
closed_full xs [] e = First-from xs stop [] (λ _ _. Unit {0}) e tt
closed_full xs (x ∷ body) e = First-from xs (carry x) (closed body) (λ _ _. Unit {0}) e tt

-- a closed list that begins with an item, or with the end
pub carried : (c : Cell) (rest : List Signal) (body : List Cell) → carry c ∷ rest ≡ closed body → (r : List Cell) × (body ≡ c ∷ r) × (rest ≡ closed r)
carried c rest [] e = absurd (cc)
carried c rest (x ∷ r) e =
    let same : x ≡ c = cc in
    let tail : rest ≡ closed r = cc in
    (r, ap (λ y. y ∷ r) same, tail)

pub stopped : (rest : List Signal) (body : List Cell) → stop ∷ rest ≡ closed body → (body ≡ []) × (rest ≡ [])
stopped rest [] e = let tail : rest ≡ [] = cc in (refl, tail)
stopped rest (x ∷ r) e = absurd (cc)

-- the change of one port, in the lists and in their bodies
pub closed_port : (n p : ℕ) (xs : Lists Signal) (bodies : Lists Cell) (body : List Cell) → AreClosed n xs bodies → AreClosed n (with_port p (closed body) xs) (with_port p body bodies)
closed_port n p xs bodies body h q lt = elim (ports q p) [
  | inl same ↦ ap (with_port p (closed body) xs) same ∙ at_port p (closed body) xs ∙ ap closed (sym (ap (with_port p body bodies) same ∙ at_port p body bodies))
  | inr other ↦ off_port p q (closed body) xs other ∙ h q lt ∙ ap closed (sym (off_port p q body bodies other))
]

pub closed_rest : (n p : ℕ) (x : Signal) (xs : Lists Signal) (bodies : Lists Cell) (body : List Cell) → xs p ≡ closed body → AreClosed n (push p x xs) bodies → AreClosed n xs (with_port p body bodies)
closed_rest n p x xs bodies body e h q lt = elim (ports q p) [
  | inl same ↦ ap xs same ∙ e ∙ ap closed (sym (ap (with_port p body bodies) same ∙ at_port p body bodies))
  | inr other ↦ sym (off_port p q (x ∷ xs p) xs other) ∙ h q lt ∙ ap closed (sym (off_port p q body bodies other))
]

pub closed_more : (n p : ℕ) (c : Cell) (xs : Lists Signal) (bodies : Lists Cell) → p < n → AreClosed n xs bodies → AreClosed n (push p (carry c) xs) (push p c bodies)
closed_more n p c xs bodies lt_p h q lt = elim (ports q p) [
  | inl same ↦ ap (push p (carry c) xs) same ∙ at_port p (carry c ∷ xs p) xs ∙ ap (λ l. carry c ∷ l) (h p lt_p) ∙ ap closed (sym (ap (push p c bodies) same ∙ at_port p (c ∷ bodies p) bodies))
  | inr other ↦ off_port p q (carry c ∷ xs p) xs other ∙ h q lt ∙ ap closed (sym (off_port p q (c ∷ bodies p) bodies other))
]

-- one end less, or one more
pub ends_less : (p n : ℕ) (xs : Lists Signal) → p < n → EndsFrom p n (push p stop xs) → EndsFrom (p + 1) n xs
ends_less p n xs lt h r lt_r = elim (ports r p) [
  | inl same ↦
      let tests : nat_lt p p ≡ false = grind (arith, nat_tests) in
      let later : nat_lt r (p + 1) ≡ true = grind (arith, nat_tests) in
      let e : stop ∷ xs p ≡ stop ∷ [] = sym (at_port p (stop ∷ xs p) xs) ∙ h p lt ∙ ap (λ b. cond b [] (stop ∷ [])) tests in
      let tail : xs p ≡ [] = cc in
      ap xs same ∙ tail ∙ sym (ap (λ b. cond b [] (stop ∷ [])) later)
  | inr other ↦
      let tests : nat_lt r (p + 1) ≡ nat_lt r p = grind (arith, nat_tests) in
      sym (off_port p r (stop ∷ xs p) xs other) ∙ h r lt_r ∙ sym (ap (λ b. cond b [] (stop ∷ [])) tests)
]

pub ends_more : (p n : ℕ) (xs : Lists Signal) → p < n → EndsFrom (p + 1) n xs → EndsFrom p n (push p stop xs)
ends_more p n xs lt h r lt_r = elim (ports r p) [
  | inl same ↦
      let tests : nat_lt r p ≡ false = grind (arith, nat_tests) in
      let later : nat_lt p (p + 1) ≡ true = grind (arith, nat_tests) in
      ap (push p stop xs) same ∙ at_port p (stop ∷ xs p) xs ∙ ap (λ l. stop ∷ l) (h p lt ∙ ap (λ b. cond b [] (stop ∷ [])) later) ∙ sym (ap (λ b. cond b [] (stop ∷ [])) tests)
  | inr other ↦
      let tests : nat_lt r (p + 1) ≡ nat_lt r p = grind (arith, nat_tests) in
      off_port p r (stop ∷ xs p) xs other ∙ h r lt_r ∙ ap (λ b. cond b [] (stop ∷ [])) tests
]

-- the end alone at each port is the closed list of no items
pub ends_closed : (n : ℕ) (xs : Lists Signal) → EndsFrom 0 n xs → AreClosed n xs (λ _. [])
ends_closed n xs h r lt = let tests : nat_lt r 0 ≡ false = grind (arith, nat_tests) in h r lt ∙ ap (λ b. cond b [] (stop ∷ [])) tests

pub closed_ends : (n : ℕ) (xs : Lists Signal) (bodies : Lists Cell) → AreClosed n xs bodies → ((p : ℕ) → p < n → bodies p ≡ []) → EndsFrom 0 n xs
closed_ends n xs bodies h empty r lt = let tests : nat_lt r 0 ≡ false = grind (arith, nat_tests) in h r lt ∙ ap closed (empty r lt) ∙ sym (ap (λ b. cond b [] (stop ∷ [])) tests)

-- the end comes first at the first port where it is due
pub end_due : (p n : ℕ) (xs : Lists Signal) → p < n → EndsFrom p n xs → xs p ≡ stop ∷ []
end_due p n xs lt h = let tests : nat_lt p p ≡ false = grind (arith, nat_tests) in h p lt ∙ ap (λ b. cond b [] (stop ∷ [])) tests

-- where no port is left, no end is due
pub none_due : (p n : ℕ) (xs : Lists Signal) → nat_lt p n ≡ false → EndsFrom p n xs → (r : ℕ) → r < n → xs r ≡ []
none_due p n xs test h r lt = let before : nat_lt r p ≡ true = grind (arith, nat_tests) in h r lt ∙ ap (λ b. cond b [] (stop ∷ [])) before

pub due_none : (p n : ℕ) (xs : Lists Signal) → nat_lt p n ≡ false → ((r : ℕ) → r < n → xs r ≡ []) → EndsFrom p n xs
due_none p n xs test h r lt = let before : nat_lt r p ≡ true = grind (arith, nat_tests) in h r lt ∙ sym (ap (λ b. cond b [] (stop ∷ [])) before)
