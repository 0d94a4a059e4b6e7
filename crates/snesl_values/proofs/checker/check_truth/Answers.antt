use Rattle.std.proofs.Common.{◌≡◌, ℕ, Bool, true, false, List, [], ◌∷◌, refl, subst, sym}
use Rattle.snesl_data.specs.declared.dialect.Dialect.{Dialect}
use Rattle.snesl_data.specs.Values.{Value, a_bool}
use Rattle.snesl_values.specs.InputTokens.{Token, HasTokens, IsNextToken}
use Rattle.snesl_data.specs.Types.{bool}
use Rattle.snesl_values.specs.Inputs.{value_tokens, StopsAt}
use Rattle.snesl_values.specs.Wants.{Fills, a_value, IsValueRead}
use Rattle.snesl_values.proofs.InputWants.{no_truth}
use Rattle.snesl_values.proofs.checker.check_truth.Goals as goal

pub returns-in-None-clause-stops : goal.returns-in-None-clause-stops
returns-in-None-clause-stops c = λ further.
    subst (StopsAt (Fills c.args.dialect (a_value bool ∷ further)) c.args.text.now c.args.at) (sym c.skip_blanks.ensures.offset)
    (no_truth c.args.dialect c.args.text.now further c.args.at c.in_default.ensures.another c.in-None.ensures.another)

-- a truth value was read
truth_read : (dialect : Dialect) (text : List ℕ) (from end : ℕ) (b : Bool) (t : Token) → value_tokens (a_bool b) ≡ t ∷ [] →
    IsNextToken text from t end → (v : Value) × IsValueRead dialect text from bool v end
truth_read dialect text from end b t e taken =
    (a_bool b, record { has_type = tt; reads = subst (λ ts. HasTokens text from ts end) (sym e) taken.reads; moves = taken.moves; within = taken.within })

pub returns-in-Some-clause-read : goal.returns-in-Some-clause-read
returns-in-Some-clause-read c = truth_read c.args.dialect c.args.text.now c.args.at c.in-Some.end true _ refl c.in-Some.ensures.taken

pub returns-in-Some-after_word-clause-read : goal.returns-in-Some-after_word-clause-read
returns-in-Some-after_word-clause-read c = truth_read c.args.dialect c.args.text.now c.args.at c.in-Some-after_word.end false _ refl c.in-Some-after_word.ensures.taken
