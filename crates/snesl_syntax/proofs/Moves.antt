-- What a reader's moves keep, its readings keep.
use Rattle.std.proofs.Common.{◌≡◌, ℕ, ◌≤◌, List, [], ◌∷◌, ◌++◌, Option, Some, None, Ok, refl, sym, ◌∙◌, ap, subst, arith, append_assoc}
use Rattle.std.proofs.lemmas.List.{append-nil}
use Rattle.snesl_grammar.specs.declared.lexer.token.Token.{Token}
use Rattle.snesl_syntax.specs.expressions.Readers.{TokenMove, at_any_depth, Reader, step, after_tokens}
use Rattle.snesl_syntax.proofs.OfExpressions.Reading.{bind_ok, within_ok, fits_step, steps_on}
use Rattle.snesl_syntax.specs.Programs.{lifted, or_else, when_whole}

-- a step that wants no depth
pub free_step : {State Form : Type 0} (reader : Reader State Form) (d : ℕ) (s next : State) (t : Token)
    → reader.move s t ≡ at_any_depth next → step reader d s t ≡ Ok next
free_step reader d s next t e = fits_step reader d s next t 0 e (omega arith)

-- the move, where there is one, has the property
abbrev pub Good : {State : Type 0} → (TokenMove State → Type 0) → Option (TokenMove State) → Type 0
Good P None = Unit {0}
Good P (Some found) = P found

pub good_some : {State : Type 0} (P : TokenMove State → Type 0) (m : Option (TokenMove State)) (found : TokenMove State) → Good P m → m ≡ Some found → P found
good_some P None found h e = absurd (let never : ⊥ = cc in never)
good_some P (Some other) found h e = subst (Good P) e h

pub good_self : {State : Type 0} (P : TokenMove State → Type 0) (m : Option (TokenMove State)) → ((found : TokenMove State) → m ≡ Some found → P found) → Good P m
good_self P None h = tt
good_self P (Some found) h = h found refl

pub good_or : {State : Type 0} (P : TokenMove State → Type 0) (m other : Option (TokenMove State)) → Good P m → Good P other → Good P (or_else m other)
good_or P None other h k = k
good_or P (Some found) other h k = h

pub good_carried : {Inner Outer : Type 0} (P : TokenMove Outer → Type 0) (around : Inner → Outer) (m : Option (TokenMove Inner))
    → ((found : TokenMove Inner) → m ≡ Some found → P (record { want = found.want; next = around found.next })) → Good P (lifted around m)
good_carried P around None h = tt
good_carried P around (Some found) h = h found refl

pub good_when : {Form State : Type 0} (P : TokenMove State → Type 0) (found : Option Form) (ends : Form → Option (TokenMove State))
    → ((form : Form) → found ≡ Some form → Good P (ends form)) → Good P (when_whole found ends)
good_when P None ends h = tt
good_when P (Some form) ends h = h form refl

-- what each move within the depth keeps, a reading keeps
pub go_stands : {State Form : Type 0} (reader : Reader State Form) (Stands : State → List Token → Type 0) (d : ℕ)
    → ((s : State) (ts : List Token) (t : Token) → Stands s ts
    → Good (λ found. found.want ≤ d → Stands found.next (ts ++ (t ∷ []))) (reader.move s t))
    → (us : List Token) (s next : State) (ts : List Token) → Stands s ts → after_tokens reader d s us ≡ Ok next → Stands next (ts ++ us)
go_stands reader Stands d steps [] s next ts h e =
    let same : s ≡ next = cc in
    subst (λ x. Stands x (ts ++ [])) same (subst (Stands s) (sym (append-nil ts)) h)
go_stands reader Stands d steps (u ∷ us) s next ts h e =
    let b = bind_ok (step reader d s u) (λ x. after_tokens reader d x us) next e in
    let w = within_ok d (reader.move s u) b.0 b.1 in
    let here = good_some (λ found. found.want ≤ d → Stands found.next (ts ++ (u ∷ []))) (reader.move s u) w.0 (steps s ts u h) w.1 w.2 in
    subst (Stands next) (append_assoc ts (u ∷ []) us)
    (go_stands reader Stands d steps us b.0 next (ts ++ (u ∷ [])) (subst (λ x. Stands x (ts ++ (u ∷ []))) w.3 here) b.2)

-- a part is read inside as it is by itself
pub go_carried : {Inner Outer Part Whole : Type 0} (part : Reader Inner Part) (reader : Reader Outer Whole) (around : Inner → Outer)
    → ((s : Inner) (t : Token) (found : TokenMove Inner) → part.move s t ≡ Some found
    → reader.move (around s) t ≡ Some (record { want = found.want; next = around found.next }))
    → (d : ℕ) (ts : List Token) (s next : Inner) → after_tokens part d s ts ≡ Ok next → after_tokens reader d (around s) ts ≡ Ok (around next)
go_carried part reader around inside d [] s next e = let same : s ≡ next = cc in ap (λ x. Ok (around x)) same
go_carried part reader around inside d (t ∷ ts) s next e =
    let b = bind_ok (step part d s t) (λ x. after_tokens part d x ts) next e in
    let w = within_ok d (part.move s t) b.0 b.1 in
    steps_on reader d (around s) (around b.0) t ts
    (fits_step reader d (around s) (around w.0.next) t w.0.want (inside s t w.0 w.1) w.2 ∙ ap (λ x. Ok (around x)) w.3)
    ∙ go_carried part reader around inside d ts b.0 next b.2
