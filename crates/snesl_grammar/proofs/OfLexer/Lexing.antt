-- What stands first in bytes, and what follows it.
use Rattle.std.proofs.Common.{◌≡◌, ℕ, suc, pos, ◌+◌, ◌-◌, ◌*◌, ◌/◌, ◌≤◌, ◌<◌, Bool, true, false, cond, eqb, List, [], ◌∷◌, length, take, drop, get_or}
use Rattle.std.proofs.Common.{IsTrue, Option, Some, None, not, refl, sym, ap, subst, ◌∙◌, arith, drop-drop, drop-cons, one-add}
use Rattle.std.proofs.lemmas.Bool.{lt-leb, cases_lt, not-true, eqb-false}
use Rattle.std.proofs.Common.{length-drop, inl, inr, take_all}
use Rattle.std.specs.List.{AllByRecursion, prefix_len}
use Rattle.snesl_data.specs.declared.dialect.Dialect.{Dialect}
use Rattle.snesl_data.specs.Integers.{greatest_integer}
use Rattle.snesl_grammar.specs.declared.lexer.token.TokenKind.{TokenKind}
use Rattle.snesl_grammar.specs.declared.lexer.token.TokenKind.TheVariants.{Integer}
use Rattle.snesl_grammar.specs.declared.lexer.token.Token.{Token}
use Rattle.snesl_grammar.specs.declared.lexer.lexer.Foremost.TheVariants.{Blank, Found, Bad}
use Rattle.snesl_grammar.specs.lexer.Tables.{kind_in}
use Rattle.snesl_grammar.specs.lexer.Signs.{one_byte_signs, two_byte_signs, longer_sign, sign_token}
use Rattle.snesl_grammar.proofs.OfLexer.Tables.{kind_in_passes}
use Rattle.snesl_data.specs.Characters.{value_from}
use Rattle.snesl_grammar.specs.lexer.Lexical.{number, first, Tokens, none_left, skips, takes, BadAt, bad_here, bad_later, bad_after, IsTokenWithin}

value_from-grows : (n : ℕ) (cs : List ℕ) → n ≤ value_from n cs
value_from-grows n [] = omega arith
value_from-grows n (c ∷ cs) = let h : 10 * n + (c - 48) ≤ value_from (10 * n + (c - 48)) cs = value_from-grows (10 * n + (c - 48)) cs in omega arith

too_large : (dialect : Dialect) → (cs : List ℕ) → greatest_integer dialect < value_from 0 cs → Bad ≡ number dialect cs
too_large dialect cs h = sym (ap (λ b. cond b (Found (Integer (pos (value_from 0 cs))) (length cs)) Bad) (lt-leb (value_from 0 cs) (greatest_integer dialect) h))

-- a number that is over the limit before its last digit
pub early : (dialect : Dialect) → (cs : List ℕ) (i v : ℕ) → i < length cs → value_from v (drop i cs) ≡ value_from 0 cs
    → (greatest_integer dialect - (get_or cs i 0 - 48)) / 10 < v → Bad ≡ number dialect cs
early dialect cs i v h same over =
    let d : ℕ = get_or cs i 0 - 48 in
    let next : value_from v (drop i cs) ≡ value_from (10 * v + (get_or cs i 0 - 48)) (drop (suc i) cs) = ap (value_from v) (drop-cons cs i 0 h) in
    let grows : 10 * v + (get_or cs i 0 - 48) ≤ value_from (10 * v + (get_or cs i 0 - 48)) (drop (suc i) cs) =
    value_from-grows (10 * v + (get_or cs i 0 - 48)) (drop (suc i) cs) in
    too_large dialect cs (omega arith)

pub prefix_passes : (p : ℕ → Bool) (xs : List ℕ) → AllByRecursion (λ x. IsTrue (p x)) (take (prefix_len p xs) xs)
prefix_passes p [] = tt
prefix_passes p (x ∷ xs) = by_test (p x) refl (prefix_passes p xs)
  where
    by_test : (b : Bool) → p x ≡ b → AllByRecursion (λ y. IsTrue (p y)) (take (prefix_len p xs) xs)
        → AllByRecursion (λ y. IsTrue (p y)) (take (cond b (1 + prefix_len p xs) 0) (x ∷ xs))
    by_test true e h = rw one-add (e, h)
    by_test false e h = tt

-- a sign ends within the text: the byte after its first one counts as 0 where there is none
pub sign_within : (b next n : ℕ) → 0 < n → (n ≡ 1 → next ≡ 0) → IsTokenWithin n (sign_token b next)
sign_within b next n some alone = by_signs (kind_in two_byte_signs (b ∷ next ∷ [])) refl (kind_in one_byte_signs (b ∷ []))
  where
    by_signs : (two : Option TokenKind) → kind_in two_byte_signs (b ∷ next ∷ []) ≡ two → (one : Option TokenKind) → IsTokenWithin n (longer_sign two one)
    by_signs (Some kind) e one =
        let no_zero : not (eqb next 0) ≡ true = kind_in_passes (λ text. not (eqb (get_or text 1 1) 0)) two_byte_signs (b ∷ next ∷ []) kind refl e in
        let some_byte : next ≡ 0 → ⊥ = eqb-false next 0 (not-true (eqb next 0) no_zero) in
        elim (cases_lt 1 n) [
          | inl more ↦ (omega arith, more)
          | inr less ↦ absurd (some_byte (alone (omega arith)))
        ]
    by_signs None e (Some kind) = (omega arith, some)
    by_signs None e None = tt

-- what is left of the text, as the code cuts it
abbrev pub rest_of : List ℕ → ℕ → List ℕ
rest_of text at = take (length text - at) (drop at text)

pub rest_is : (text : List ℕ) (at : ℕ) → rest_of text at ≡ drop at text
rest_is text at = take_all (length text - at) (drop at text) (omega (arith, length-drop at text))

pub blank_on : (dialect : Dialect) → (text : List ℕ) (at : ℕ) (ts : List Token) → Blank ≡ first dialect (rest_of text at)
    → Tokens dialect (at + 1) (drop (at + 1) text) ts → Tokens dialect at (drop at text) ts
blank_on dialect text at ts e h = skips (sym (e ∙ ap (first dialect) (rest_is text at))) (subst (λ bs. Tokens dialect (at + 1) bs ts) (sym (drop-drop 1 at text)) h)

pub found_on : (dialect : Dialect) → (text : List ℕ) (at : ℕ) (k : TokenKind) (len : ℕ) (ts : List Token) → Found k len ≡ first dialect (rest_of text at)
    → Tokens dialect (at + len) (drop (at + len) text) ts → Tokens dialect at (drop at text) (record { kind = k; at = at } ∷ ts)
found_on dialect text at k len ts e h = takes k len (sym (e ∙ ap (first dialect) (rest_is text at))) (subst (λ bs. Tokens dialect (at + len) bs ts) (sym (drop-drop len at text)) h)

pub blank_bad : (dialect : Dialect) → (text : List ℕ) (at n : ℕ) → Blank ≡ first dialect (rest_of text at)
    → BadAt dialect (at + 1) (drop (at + 1) text) n → BadAt dialect at (drop at text) n
blank_bad dialect text at n e h = bad_later (sym (e ∙ ap (first dialect) (rest_is text at))) (subst (λ bs. BadAt dialect (at + 1) bs n) (sym (drop-drop 1 at text)) h)

pub found_bad : (dialect : Dialect) → (text : List ℕ) (at : ℕ) (k : TokenKind) (len n : ℕ) → Found k len ≡ first dialect (rest_of text at)
    → BadAt dialect (at + len) (drop (at + len) text) n → BadAt dialect at (drop at text) n
found_bad dialect text at k len n e h = bad_after k len (sym (e ∙ ap (first dialect) (rest_is text at))) (subst (λ bs. BadAt dialect (at + len) bs n) (sym (drop-drop len at text)) h)

pub bad_now : (dialect : Dialect) → (text : List ℕ) (at : ℕ) → at < length text → Bad ≡ first dialect (rest_of text at) → BadAt dialect at (drop at text) at
bad_now dialect text at h e = by_cases (drop at text) (omega (arith, length-drop at text)) (e ∙ ap (first dialect) (rest_is text at))
  where
    by_cases : (bs : List ℕ) → 0 < length bs → Bad ≡ first dialect bs → BadAt dialect at bs at
    by_cases [] some f = absurd (omega arith)
    by_cases (b ∷ bs) some f = bad_here b bs (sym f)

pub nothing_left : (dialect : Dialect) → (text : List ℕ) (at : ℕ) → length text ≤ at → Tokens dialect at (drop at text) []
nothing_left dialect text at h = by_cases (drop at text) (omega (arith, length-drop at text))
  where
    by_cases : (bs : List ℕ) → length bs ≡ 0 → Tokens dialect at bs []
    by_cases [] e = none_left
    by_cases (b ∷ bs) e = absurd (omega arith)
