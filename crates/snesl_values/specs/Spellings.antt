-- The tokens that spell a value.
use Rattle.std.specs.Prelude.{true, false, List, [], ◌∷◌, ◌++◌, codes}
use Rattle.snesl_data.specs.Values.{Value, an_int, a_bool, a_pair, a_vec, a_seq, Values, no_values, more_values}
use Rattle.snesl_values.specs.InputTokens.{Token, word, integer, sign}

-- the sign `=`
abbrev pub equals : Token
equals = sign 61

-- the sign `;`
abbrev pub semicolon : Token
semicolon = sign 59

-- the sign `,`
abbrev pub comma : Token
comma = sign 44

-- the sign `(`
abbrev pub left_paren : Token
left_paren = sign 40

-- the sign `)`
abbrev pub right_paren : Token
right_paren = sign 41

-- the sign `[`
abbrev pub left_bracket : Token
left_bracket = sign 91

-- the sign `]`
abbrev pub right_bracket : Token
right_bracket = sign 93

-- the sign `{`
abbrev pub left_brace : Token
left_brace = sign 123

-- the sign `}`
abbrev pub right_brace : Token
right_brace = sign 125

abbrev mutual
  -- the tokens that spell a value: `-14`, `true`, `(1,2)`, `[1,2]` for a vector and `{1,2}` for a sequence
  pub value_tokens : Value → List Token
  value_tokens (an_int n) = integer n ∷ []
  value_tokens (a_bool true) = word (codes "true") ∷ []
  value_tokens (a_bool false) = word (codes "false") ∷ []
  value_tokens (a_pair a b) = left_paren ∷ (value_tokens a ++ (comma ∷ (value_tokens b ++ (right_paren ∷ []))))
  value_tokens (a_vec vs) = left_bracket ∷ (items_tokens vs ++ (right_bracket ∷ []))
  value_tokens (a_seq vs) = left_brace ∷ (items_tokens vs ++ (right_brace ∷ []))

  -- the items, with a comma before each but the first
  pub items_tokens : Values → List Token
  items_tokens no_values = []
  items_tokens (more_values v vs) = value_tokens v ++ further_tokens vs

  -- the items, with a comma before each
  pub further_tokens : Values → List Token
  further_tokens no_values = []
  further_tokens (more_values v vs) = comma ∷ (value_tokens v ++ further_tokens vs)
