-- The layout of tokens.
use Rattle.std.specs.Prelude.{ℕ, zero, suc, List, [], ◌∷◌, ◌++◌, codes}
use Rattle.snesl_grammar.specs.declared.lexer.token.Token.{Token}
use Rattle.snesl_layout.specs.declared.lines.Gap.{Gap}
use Rattle.snesl_layout.specs.declared.lines.Gap.TheVariants.{Nothing, Blank, Line, EmptyLine}
use Rattle.snesl_layout.specs.declared.lines.State.{State}
use Rattle.snesl_layout.specs.Spacing.{token_bytes}
use Rattle.snesl_layout.specs.Lines.{gap_before, start, state_after}

-- the blanks before a line: four for each level
abbrev pub indent : ℕ → List ℕ
indent zero = []
indent (suc levels) = indent levels ++ codes "    "

-- the bytes that stand before a token
abbrev pub gap_bytes : Gap → List ℕ
gap_bytes Nothing = []
gap_bytes Blank = codes " "
gap_bytes (Line levels) = 10 ∷ indent levels
gap_bytes EmptyLine = 10 ∷ 10 ∷ []

-- tokens of a text, laid out behind others
abbrev pub layout_from : List ℕ → State → List Token → List ℕ
layout_from text state [] = []
layout_from text state (token ∷ after) =
    gap_bytes (gap_before text state token after) ++ (token_bytes text token after ++ layout_from text (state_after text state token after) after)

-- the tokens of a text, laid out, with a line feed at the end
abbrev pub layout : List ℕ → List Token → List ℕ
layout text tokens = layout_from text start tokens ++ (10 ∷ [])
