-- What the input texts of rows spell, and where they are refused.
use Rattle.std.proofs.Common.{◌≡◌, ℕ, zero, suc, ◌+◌, ◌≤◌, leb, true, ℤ, pos, List, [], ◌∷◌, length, Option, Some, None, option_map, codes, refl, sym, ap, subst}
use Rattle.std.proofs.lemmas.Bool.{leb-true}
use Rattle.snesl_data.specs.declared.dialect.Dialect.{Dialect}
use Rattle.snesl_data.specs.declared.dialect.Dialect.TheVariants.{One}
use Rattle.snesl_data.specs.Integers.{IsInteger}
use Rattle.snesl_data.specs.Types.{Ty, int, seq}
use Rattle.snesl_data.specs.Values.{Value, a_seq, no_values}
use Rattle.snesl_values.specs.Inputs.{greatest_input_length, InputDeclaration, Environment, FitDeclarations, AreEntries, equals, comma, left_brace}
use Rattle.snesl_values.specs.Inputs.{right_brace, StopsAt, SpellsEnvironment, InputMeans, spells, refused_at, lawful, unlawful}
use Rattle.snesl_values.specs.InputTokens.{Token, SizedToken, word, integer, first, next_lexeme, next_at, next_token, HasTokens, none, more}
use Rattle.snesl_values.specs.Wants.{ToCome, one, perhaps, a_value, items, further_items, further_wants}
use Rattle.snesl_values.proofs.InputWants.{after_one, after_value, another_one, no_integer, seq_stops, first_item, later_item}
use Rattle.snesl_values.proofs.InputEntries.{stops_lawful}

-- Tokens, found by computing.

-- a token before these
abbrev with_token : Token → Option (List Token × ℕ) → Option (List Token × ℕ)
with_token token (Some found) = Some (token ∷ found.0, found.1)
with_token token None = None

-- the reading from an offset on by what comes next there
abbrev by_next : Option SizedToken → ℕ → (ℕ → Option (List Token × ℕ)) → Option (List Token × ℕ)
by_next None at rest = Some ([], at)
by_next (Some lexeme) at rest = with_token lexeme.0 (rest lexeme.1)

-- all tokens from an offset on and where the last ends, if there are no more than so many
abbrev pub tokens_from : ℕ → List ℕ → ℕ → Option (List Token × ℕ)
tokens_from zero text at = None
tokens_from (suc n) text at = by_next (next_lexeme text at) at (λ len. tokens_from n text (next_at text at + len))

-- these are all tokens from an offset on
abbrev AreTokens : List ℕ → ℕ → Option (List Token × ℕ) → Type 0
AreTokens text at (Some found) = HasTokens text at found.0 found.1 × (next_token text found.1 ≡ None)
AreTokens text at None = Unit {0}

are_tokens : (n : ℕ) (text : List ℕ) (at : ℕ) → AreTokens text at (tokens_from n text at)
are_tokens zero text at = tt
are_tokens (suc n) text at = of_next (next_lexeme text at) refl (λ len. are_tokens n text (next_at text at + len))
  where
    of_rest : (lexeme : SizedToken) → next_lexeme text at ≡ Some lexeme → (rest : Option (List Token × ℕ))
        → AreTokens text (next_at text at + lexeme.1) rest → AreTokens text at (with_token lexeme.0 rest)
    of_rest lexeme e (Some found) h = (more lexeme.0 lexeme.1 e h.0, h.1)
    of_rest lexeme e None h = tt

    of_next : (it : Option SizedToken) → next_lexeme text at ≡ it
        → ((len : ℕ) → AreTokens text (next_at text at + len) (tokens_from n text (next_at text at + len)))
        → AreTokens text at (by_next it at (λ len. tokens_from n text (next_at text at + len)))
    of_next None e later = (none, ap (option_map (λ (lexeme : SizedToken). lexeme.0)) e)
    of_next (Some lexeme) e later = of_rest lexeme e (tokens_from n text (next_at text at + lexeme.1)) (later lexeme.1)

-- a text whose tokens spell an environment
pub spelled : (dialect : Dialect) (declarations : List InputDeclaration) (text : List ℕ) (environment : Environment) (tokens : List Token) (end : ℕ)
    → leb (length text) greatest_input_length ≡ true → tokens_from (suc (length text)) text 0 ≡ Some (tokens, end)
    → FitDeclarations dialect declarations environment → AreEntries environment tokens → InputMeans dialect declarations text (spells environment)
spelled dialect declarations text environment tokens end short found fits entries =
    let h : AreTokens text 0 (Some (tokens, end)) = subst (AreTokens text 0) found (are_tokens (suc (length text)) text 0) in
    lawful (leb-true _ _ short) h.0 h.1 (record { fits = fits; entries = entries })

-- Texts that are refused.

-- what may come after the last input
abbrev further : List ToCome
further = further_wants []

abbrev great_text : List ℕ
great_text = codes "n = 9223372036854775808"

-- an integer above the greatest
pub integer_refused : StopsAt (SpellsEnvironment One ((codes "n", int) ∷ [])) (codes "n = 9223372036854775808") 0 4
unfolding next_lexeme next_at first
integer_refused =
    stops_lawful One great_text ((codes "n", int) ∷ []) 4
    (after_one One great_text (word (codes "n")) (one equals ∷ a_value int ∷ further) 0 1 4 (more (word (codes "n")) 1 refl none)
    (after_one One great_text equals (a_value int ∷ further) 1 3 4 (more equals 1 refl none)
    (no_integer One great_text further 3 no_such)))
  where
    no_such : (n : ℤ) → IsInteger One n → next_token great_text 3 ≡ Some (integer n) → ⊥
    no_such n ranged e =
        let same : pos 9223372036854775808 ≡ n = cc in
        let outside : IsInteger One (pos 9223372036854775808) = subst (IsInteger One) (sym same) ranged in
        cc

abbrev open_text : List ℕ
open_text = codes "xs = {{}"

-- a sequence that is not closed
pub sequence_refused : StopsAt (SpellsEnvironment One ((codes "xs", seq (seq int)) ∷ [])) (codes "xs = {{}") 0 8
unfolding next_lexeme next_at first
sequence_refused =
    stops_lawful One open_text ((codes "xs", seq (seq int)) ∷ []) 8
    (after_one One open_text (word (codes "xs")) (one equals ∷ a_value (seq (seq int)) ∷ further) 0 2 8 (more (word (codes "xs")) 2 refl none)
    (after_one One open_text equals (a_value (seq (seq int)) ∷ further) 2 4 8 (more equals 1 refl none)
    (seq_stops One open_text (seq int) further 4 8
    (after_one One open_text left_brace (items (seq int) 125 ∷ further) 4 6 8 (more left_brace 1 refl none)
    (first_item One open_text (seq int) 125 further 6 8 (λ e. cc)
    (after_value One open_text (seq int) (a_seq no_values) (further_items (seq int) 125 ∷ further) 6 8 8 tt (more left_brace 1 refl (more right_brace 1 refl none))
    (later_item One open_text (seq int) 125 further 8 8 (λ e. cc)
    (another_one One open_text comma (a_value (seq int) ∷ further_items (seq int) 125 ∷ further) 8 (λ e. cc)))))))))
