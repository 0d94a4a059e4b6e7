-- The rows with an input text hold.
use Rattle.std.proofs.Common.{refl, ℕ, zero, suc, List, [], ◌∷◌, codes, ℤ, pos, inl}
use Rattle.snesl_data.specs.Types.{Ty}
use Rattle.snesl_data.specs.Values.{Value, a_seq, a_vec, values_of}
use Rattle.snesl_data.specs.declared.dialect.Dialect.TheVariants.{One}
use Rattle.snesl_values.specs.Inputs.{Environment, environment_tokens, spells, refused_at, unlawful}
use Rattle.snesl_values.specs.InputTokens.{next_lexeme, next_at, first}
use Rattle.std.proofs.lemmas.Bool.{leb-true}
use Rattle.snesl_meaning.specs.worked.Rows.{Row, ◌means◌, Hold, number, numbers, sequence}
use Rattle.snesl_meaning.specs.Meaning.{has_value}
use Rattle.snesl_meaning.specs.worked.Worked.{with_inputs}
use Rattle.snesl_meaning.proofs.OfWorked.Inputs.{spelled, integer_refused, sequence_refused}
use Rattle.snesl_meaning.proofs.OfWorked.Found.{row_holds_on}

-- what the input texts of the rows spell
abbrev sequences : Environment
sequences = (codes "xs", sequence (numbers [] ∷ numbers (1 ∷ 2 ∷ 3 ∷ []) ∷ numbers (4 ∷ []) ∷ [])) ∷ []

abbrev small : Environment
small = (codes "s", numbers (2 ∷ 1 ∷ 3 ∷ [])) ∷ []

abbrev great : Environment
great = (codes "s", numbers (9223372036854775807 ∷ 1 ∷ 1 ∷ [])) ∷ []

abbrev vector : Environment
vector = (codes "v", a_vec (values_of (number 7 ∷ number 8 ∷ []))) ∷ []

-- the row of this number
abbrev row : ℕ → List Row → Row
row n [] = "" means has_value (number 0)
row zero (first ∷ rows) = first
row (suc n) (first ∷ rows) = row n rows

pub with_inputs_hold : Hold with_inputs
unfolding next_lexeme next_at first
with_inputs_hold = (
  row_holds_on (row 0 with_inputs) (spells sequences) refl
      (spelled One _ _ sequences (environment_tokens sequences) 21 refl refl (refl, (tt, ((refl, (refl, (refl, tt))), ((refl, tt), tt))), tt) (inl refl), refl),
  (
    row_holds_on (row 1 with_inputs) (spells small) refl
        (spelled One _ _ small (environment_tokens small) 11 refl refl (refl, (refl, (refl, (refl, tt))), tt) (inl refl), refl),
    (
      row_holds_on (row 2 with_inputs) (spells great) refl
          (spelled One _ _ great (environment_tokens great) 29 refl refl (refl, (refl, (refl, (refl, tt))), tt) (inl refl), refl),
      (
        row_holds_on (row 3 with_inputs) (spells vector) refl
            (spelled One _ _ vector (environment_tokens vector) 9 refl refl (refl, (refl, (refl, tt)), tt) (inl refl), refl),
        (
          row_holds_on (row 4 with_inputs) (refused_at 4) refl (unlawful (leb-true _ _ refl) integer_refused, refl),
          (
            row_holds_on (row 5 with_inputs) (refused_at 8) refl (unlawful (leb-true _ _ refl) sequence_refused, refl),
            tt,
          ),
        ),
      ),
    ),
  ),
)
