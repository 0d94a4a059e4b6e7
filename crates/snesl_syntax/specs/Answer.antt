-- The answer that a reader gives for the tokens of a text.
use Rattle.std.specs.Prelude.{ℕ, List, [], ◌∷◌, Option, Some, None, Result, Ok, Err}
use Rattle.snesl_data.specs.declared.refusal.Refusal.{Refusal}
use Rattle.snesl_data.specs.declared.refusal.Refusal.TheVariants.{Syntax, Deep}
use Rattle.snesl_grammar.specs.declared.lexer.token.Token.{Token}
use Rattle.snesl_syntax.specs.expressions.Readers.{Stop, unexpected, beyond_depth, Reader, step}

-- the form, or where there is none the refusal of the end of a text of so many bytes
abbrev pub at_end : {Form : Type 0} → ℕ → Option Form → Result Form Refusal
at_end len None = Err (Syntax len)
at_end len (Some form) = Ok form

-- the refusal of a token at this offset
abbrev pub refusal_of : Stop → ℕ → Refusal
refusal_of unexpected at = Syntax at
refusal_of beyond_depth at = Deep

-- the answer where a token at this offset made this of the state
abbrev pub answer_from : {State Form : Type 0} → Result State Stop → ℕ → (State → Result Form Refusal) → Result Form Refusal
answer_from (Ok state) at further = further state
answer_from (Err stop) at further = Err (refusal_of stop at)

-- the answer for the tokens that are left of a text of so many bytes
abbrev pub parse_rest : {State Form : Type 0} → Reader State Form → ℕ → ℕ → State → List Token → Result Form Refusal
parse_rest reader deep len state [] = at_end len (reader.finished state)
parse_rest reader deep len state (token ∷ tokens) =
    answer_from (step reader deep state token) token.at (λ next. parse_rest reader deep len next tokens)
