-- What stands in a table.
use Rattle.std.proofs.Common.{◌≡◌, ℕ, Bool, true, false, cond, List, [], ◌∷◌, length, Some, refl, sym, ap, ◌∙◌}
use Rattle.std.specs.List.{list_all}
use Rattle.std.specs.Str.{bytes_eq}
use Rattle.std.proofs.lemmas.Bool.{and_parts}
use Rattle.std.proofs.lemmas.Slice.Eq.{bytes_eq-Decides, HasBytesAt, text_from_reads}
use Rattle.snesl_grammar.specs.declared.lexer.token.TokenKind.{TokenKind}
use Rattle.snesl_grammar.specs.lexer.Tables.{kind_in}
use Rattle.snesl_grammar.specs.lexer.Words.{word_kind}

-- a text that stands in a table passes each test that all of the table's texts do
pub kind_in_passes : (p : List ℕ → Bool) (rows : List (List ℕ × TokenKind)) (text : List ℕ) (kind : TokenKind)
    → list_all (λ (row : List ℕ × TokenKind). p row.0) rows ≡ true → kind_in rows text ≡ Some kind → p text ≡ true
kind_in_passes p [] text kind all found = cc
kind_in_passes p (row ∷ rows) text kind all found =
    let parts = and_parts (p row.0) (list_all (λ (r : List ℕ × TokenKind). p r.0) rows) all in
    by_test (bytes_eq text row.0) refl parts.0 (kind_in_passes p rows text kind parts.1) found
  where
    by_test : (b : Bool) → bytes_eq text row.0 ≡ b → p row.0 ≡ true → (kind_in rows text ≡ Some kind → p text ≡ true)
        → cond b (Some row.1) (kind_in rows text) ≡ Some kind → p text ≡ true
    by_test true e here later found = ap p ((bytes_eq-Decides text row.0).0 e) ∙ here
    by_test false e here later found = later found

-- a word that was read byte by byte
pub word_read : (word text : List ℕ) (kind : TokenKind) → kind ≡ word_kind text → length word ≡ length text
    → HasBytesAt word 0 text → kind ≡ word_kind word
word_read word text kind e same bytes = e ∙ ap word_kind (sym (text_from_reads word text same bytes))
