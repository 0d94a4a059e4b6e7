-- Bytes have one reading at most: one list of tokens, or one bad byte.
use Rattle.std.proofs.Common.{◌≡◌, ℕ, zero, suc, ◌+◌, ◌≤◌, ◌<◌, List, [], ◌∷◌, length, drop, Result, Ok, Err, ◌⊎◌, inl, inr, refl, ap, subst, arith, length-drop}
use Rattle.snesl_data.specs.declared.dialect.Dialect.{Dialect}
use Rattle.snesl_grammar.specs.declared.lexer.token.Token.{Token}
use Rattle.snesl_grammar.specs.declared.lexer.lexer.Foremost.{Foremost}
use Rattle.snesl_grammar.specs.declared.lexer.lexer.Foremost.TheVariants.{Blank, Found, Bad}
use Rattle.snesl_grammar.specs.lexer.Lexical.{first, dialect_of, Tokens, none_left, skips, takes, BadAt, bad_here, bad_later, bad_after}
use Rattle.snesl_grammar.specs.lexer.Readings.{Reads, HaveOneReading}
use Rattle.snesl_grammar.proofs.OfLexer.Longest.{found_some}

-- bytes are one list of tokens at most
pub one_tokens : (dialect : Dialect) → {at : ℕ} {bs : List ℕ} {ts : List Token} → Tokens dialect at bs ts → (us : List Token) → Tokens dialect at bs us → ts ≡ us
one_tokens dialect none_left us none_left = refl
one_tokens dialect none_left us (skips f k) = cc
one_tokens dialect none_left us (takes k len f r) = cc
one_tokens dialect (skips e h) us none_left = cc
one_tokens dialect (skips e h) us (skips f k) = one_tokens dialect h us k
one_tokens dialect (skips e h) us (takes k len f r) = cc
one_tokens dialect (takes k len e h) us none_left = cc
one_tokens dialect (takes k len e h) us (skips f r) = cc
one_tokens dialect (takes k len e h) us (takes {at = at} {bs = bs} {ts = vs} k' len' f r) =
    let kinds : k ≡ k' = cc in
    let lens : len' ≡ len = cc in
    let rest = one_tokens dialect h vs (subst (λ n. Tokens dialect (at + n) (drop n bs) vs) lens r) in
    cc (kinds, rest)

-- bytes that are tokens have no bad byte
pub no_both : (dialect : Dialect) → {at : ℕ} {bs : List ℕ} {ts : List Token} → Tokens dialect at bs ts → (n : ℕ) → BadAt dialect at bs n → ⊥
no_both dialect (skips e h) n (bad_here b bs f) = cc
no_both dialect (skips e h) n (bad_later f k) = no_both dialect h n k
no_both dialect (skips e h) n (bad_after k len f r) = cc
no_both dialect (takes k len e h) n (bad_here b bs f) = cc
no_both dialect (takes k len e h) n (bad_later f r) = cc
no_both dialect (takes k len e h) n (bad_after {at = at} {bs = bs} k' len' f r) =
    let lens : len' ≡ len = cc in
    no_both dialect h n (subst (λ m. BadAt dialect (at + m) (drop m bs) n) lens r)
no_both dialect none_left n (bad_later f k) = cc
no_both dialect none_left n (bad_after k len f r) = cc

-- bytes have one first bad byte at most
pub one_bad : (dialect : Dialect) → {at n : ℕ} {bs : List ℕ} → BadAt dialect at bs n → (m : ℕ) → BadAt dialect at bs m → n ≡ m
one_bad dialect (bad_here b bs e) m (bad_here c cs f) = refl
one_bad dialect (bad_here b bs e) m (bad_later f k) = cc
one_bad dialect (bad_here b bs e) m (bad_after k len f r) = cc
one_bad dialect (bad_later e h) m (bad_here b bs f) = cc
one_bad dialect (bad_later e h) m (bad_later f k) = one_bad dialect h m k
one_bad dialect (bad_later e h) m (bad_after k len f r) = cc
one_bad dialect (bad_after k len e h) m (bad_here b bs f) = cc
one_bad dialect (bad_after k len e h) m (bad_later f r) = cc
one_bad dialect (bad_after k len e h) m (bad_after {at = at} {bs = bs} k' len' f r) =
    let lens : len' ≡ len = cc in
    one_bad dialect h m (subst (λ i. BadAt dialect (at + i) (drop i bs) m) lens r)

-- bytes are tokens or have a bad byte
some_reading : (dialect : Dialect) → (n at : ℕ) (bs : List ℕ) → length bs ≤ n → ((ts : List Token) × Tokens dialect at bs ts) ⊎ ((m : ℕ) × BadAt dialect at bs m)
some_reading dialect n at [] below = inl ([], none_left)
some_reading dialect zero at (b ∷ bs) below = absurd (omega arith)
some_reading dialect (suc n) at (b ∷ bs) below =
    by_first (first dialect (b ∷ bs)) refl (λ len some. some_reading dialect n (at + len) (drop len (b ∷ bs)) (omega (arith, length-drop len (b ∷ bs))))
  where
    by_first : (it : Foremost) → first dialect (b ∷ bs) ≡ it
        → ((len : ℕ) → 0 < len → ((ts : List Token) × Tokens dialect (at + len) (drop len (b ∷ bs)) ts) ⊎ ((m : ℕ) × BadAt dialect (at + len) (drop len (b ∷ bs)) m))
        → ((ts : List Token) × Tokens dialect at (b ∷ bs) ts) ⊎ ((m : ℕ) × BadAt dialect at (b ∷ bs) m)
    by_first Blank e rest = elim (rest 1 (omega arith)) [
      | inl tokens ↦ inl (tokens.0, skips e tokens.1)
      | inr bad ↦ inr (bad.0, bad_later e bad.1)
    ]
    by_first (Found kind len) e rest = elim (rest len (found_some dialect (b ∷ bs) kind len e)) [
      | inl tokens ↦ inl (record { kind = kind; at = at } ∷ tokens.0, takes kind len e tokens.1)
      | inr bad ↦ inr (bad.0, bad_after kind len e bad.1)
    ]
    by_first Bad e rest = inr (at, bad_here b bs e)

pub one_reading : HaveOneReading
one_reading text = by_cases (some_reading (dialect_of text) (length text) 0 text (omega arith))
  where
    only_tokens : (tokens : List Token) → Tokens (dialect_of text) 0 text tokens → (other : Result (List Token) ℕ) → Reads text other → other ≡ Ok tokens
    only_tokens tokens h (Ok others) k = ap (λ ts. Ok ts) (one_tokens (dialect_of text) k tokens h)
    only_tokens tokens h (Err at) k = absurd (no_both (dialect_of text) h at k)

    only_bad : (at : ℕ) → BadAt (dialect_of text) 0 text at → (other : Result (List Token) ℕ) → Reads text other → other ≡ Err at
    only_bad at h (Ok tokens) k = absurd (no_both (dialect_of text) k at h)
    only_bad at h (Err other) k = ap (λ n. Err n) (one_bad (dialect_of text) k at h)

    by_cases : ((ts : List Token) × Tokens (dialect_of text) 0 text ts) ⊎ ((m : ℕ) × BadAt (dialect_of text) 0 text m)
        → (reading : Result (List Token) ℕ) × Reads text reading × ((other : Result (List Token) ℕ) → Reads text other → other ≡ reading)
    by_cases (inl (tokens, h)) = (Ok tokens, h, only_tokens tokens h)
    by_cases (inr (at, h)) = (Err at, h, only_bad at h)
