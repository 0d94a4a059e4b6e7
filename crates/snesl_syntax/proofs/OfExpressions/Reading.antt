-- Reading tokens one after the other: what holds of every reader.
use Rattle.std.proofs.Common.{◌≡◌, ℕ, max, ◌≤◌, cond, leb, List, [], ◌∷◌, ◌++◌, Option, Some, None, Result, Ok, Err, refl, sym, ◌∙◌, ap, arith, le-leb, inl, inr}
use Rattle.std.proofs.lemmas.Bool.{leb-true, cases_Bool}
use Rattle.snesl_grammar.specs.declared.lexer.token.Token.{Token}
use Rattle.snesl_syntax.specs.expressions.Readers.{Stop, unexpected, beyond_depth, TokenMove, Reader, within, and_then, step, after_tokens}

pub bind_ok : {State : Type 0} (x : Result State Stop) (further : State → Result State Stop) (next : State) → and_then x further ≡ Ok next
    → (r : State) × (x ≡ Ok r) × (further r ≡ Ok next)
bind_ok (Ok r) further next e = (r, refl, e)
bind_ok (Err stop) further next e = cc

-- a move that is within the depth
pub within_fits : {State : Type 0} (d : ℕ) (m : Option (TokenMove State)) (next : State) (want : ℕ)
    → m ≡ Some (record { want = want; next = next }) → want ≤ d → within d m ≡ Ok next
within_fits d m next want e h = ap (within d) e ∙ ap (λ b. cond b (Ok next) (Err beyond_depth)) (le-leb want d h)

-- what a move within the depth was
pub within_ok : {State : Type 0} (d : ℕ) (m : Option (TokenMove State)) (next : State) → within d m ≡ Ok next
    → (found : TokenMove State) × (m ≡ Some found) × (found.want ≤ d) × (found.next ≡ next)
within_ok d None next e = cc
within_ok {State = State} d (Some found) next e =
    elim (cases_Bool (leb found.want d)) [
      | inl fits ↦
          let same : ◌≡◌ {A = Result State Stop} (Ok found.next) (Ok next) = sym (ap (λ b. cond b (Ok found.next) (Err beyond_depth)) fits) ∙ e in
          (found, refl, leb-true found.want d fits, cc)
      | inr deep ↦ absurd (let never : ⊥ = cc (ap (λ b. cond {A = Result State Stop} b (Ok found.next) (Err beyond_depth)) deep) in never)
    ]

-- more depth changes no move
pub within_more : {State : Type 0} (d D : ℕ) (m : Option (TokenMove State)) (next : State) → d ≤ D → within d m ≡ Ok next → within D m ≡ Ok next
within_more d D m next h e =
    let w = within_ok d m next e in
    within_fits D m w.0.next w.0.want w.1 (omega (arith, w.2)) ∙ ap Ok w.3

-- a token without a move has none at any depth
pub within_unexpected : {State : Type 0} (d D : ℕ) (m : Option (TokenMove State)) → within d m ≡ Err unexpected → within D m ≡ Err unexpected
within_unexpected d D None e = refl
within_unexpected {State = State} d D (Some found) e =
    elim (cases_Bool (leb found.want d)) [
      | inl fits ↦ absurd (let never : ⊥ = cc (ap (λ b. cond {A = Result State Stop} b (Ok found.next) (Err beyond_depth)) fits) in never)
      | inr deep ↦ absurd (let never : ⊥ = cc (ap (λ b. cond {A = Result State Stop} b (Ok found.next) (Err beyond_depth)) deep) in never)
    ]

-- a depth that is too little for a move is followed by one that is enough
pub within_deeper : {State : Type 0} (d : ℕ) (m : Option (TokenMove State)) → within d m ≡ Err beyond_depth
    → (D : ℕ) × (next : State) × (d ≤ D) × (within D m ≡ Ok next)
within_deeper d None e = absurd (let never : ⊥ = cc in never)
within_deeper d (Some found) e =
    (max d found.want, found.next, omega arith, ap (λ b. cond b (Ok found.next) (Err beyond_depth)) (le-leb found.want (max d found.want) (omega arith)))

module _ {State Form : Type 0} (reader : Reader State Form) where
  pub go_append : (d : ℕ) (s : State) (ts us : List Token) → after_tokens reader d s (ts ++ us) ≡ and_then (after_tokens reader d s ts) (λ r. after_tokens reader d r us)
  go_append d s [] us = refl
  go_append d s (t ∷ ts) us =
      elim (step reader d s t) as (λ x. and_then x (λ r. after_tokens reader d r (ts ++ us)) ≡ and_then (and_then x (λ r. after_tokens reader d r ts)) (λ r. after_tokens reader d r us))
      [ Ok r ↦ go_append d r ts us | Err e ↦ refl ]

  -- reading on
  pub goes_on : (d : ℕ) (s r : State) (ts us : List Token) → after_tokens reader d s ts ≡ Ok r → after_tokens reader d s (ts ++ us) ≡ after_tokens reader d r us
  goes_on d s r ts us e = go_append d s ts us ∙ ap (λ x. and_then x (λ r. after_tokens reader d r us)) e

  pub steps_on : (d : ℕ) (s r : State) (t : Token) (ts : List Token) → step reader d s t ≡ Ok r → after_tokens reader d s (t ∷ ts) ≡ after_tokens reader d r ts
  steps_on d s r t ts e = ap (λ x. and_then x (λ r. after_tokens reader d r ts)) e

  -- one token more
  pub ends_with : (d : ℕ) (s r next : State) (ts : List Token) (t : Token) → after_tokens reader d s ts ≡ Ok r → step reader d r t ≡ Ok next
      → after_tokens reader d s (ts ++ (t ∷ [])) ≡ Ok next
  ends_with d s r next ts t e f = goes_on d s r ts (t ∷ []) e ∙ steps_on d r next t [] f

  -- a step that is within the depth
  pub fits_step : (d : ℕ) (s next : State) (t : Token) (want : ℕ)
      → reader.move s t ≡ Some (record { want = want; next = next }) → want ≤ d → step reader d s t ≡ Ok next
  fits_step d s next t want e h = within_fits d (reader.move s t) next want e h

  -- more depth changes no reading
  pub go_more : (d D : ℕ) (s r : State) (ts : List Token) → d ≤ D → after_tokens reader d s ts ≡ Ok r → after_tokens reader D s ts ≡ Ok r
  go_more d D s r [] h e = e
  go_more d D s r (t ∷ ts) h e =
      let b = bind_ok (step reader d s t) (λ x. after_tokens reader d x ts) r e in
      ap (λ x. and_then x (λ y. after_tokens reader D y ts)) (within_more d D (reader.move s t) b.0 h b.1) ∙ go_more d D b.0 r ts h b.2

  -- what was read to its end was read so far
  pub go_front : (d : ℕ) (s r : State) (ts us : List Token) → after_tokens reader d s (ts ++ us) ≡ Ok r
      → (middle : State) × (after_tokens reader d s ts ≡ Ok middle) × (after_tokens reader d middle us ≡ Ok r)
  go_front d s r ts us e = bind_ok (after_tokens reader d s ts) (λ x. after_tokens reader d x us) r (sym (go_append d s ts us) ∙ e)
