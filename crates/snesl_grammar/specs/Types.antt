-- Which tokens are a type, and which begin one.
use Rattle.std.specs.Prelude.{ℕ, suc, ◌≤◌, List, [], ◌∷◌, ◌++◌}
use Rattle.snesl_grammar.specs.declared.lexer.token.TokenKind.TheVariants.{Int, Bool, LeftParen, RightParen, LeftBracket, RightBracket, LeftBrace, RightBrace, Comma}
use Rattle.snesl_grammar.specs.declared.lexer.token.Token.{Token}
use Rattle.snesl_grammar.specs.tree.Tree.{TypeTree, int_type, bool_type, pair_type, vector_type, sequence_type, type_depth}
use Rattle.snesl_grammar.specs.Expressions.{token}

-- the tokens are this type
pub data WholeType : List Token → TypeTree → Type 0 where
  -- `int` and `bool` are types
  int_rule : {at : ℕ} → WholeType (token Int at ∷ []) (int_type at)
  bool_rule : {at : ℕ} → WholeType (token Bool at ∷ []) (bool_type at)
  -- `(first, second)` is a pair
  pair_type_rule : {at : ℕ} (comma closed : ℕ) {ts us : List Token} {first second : TypeTree}
      → WholeType ts first → WholeType us second
      → WholeType (token LeftParen at ∷ (ts ++ (token Comma comma ∷ (us ++ (token RightParen closed ∷ []))))) (pair_type at first second)
  -- `[item]` is a vector
  vector_rule : {at : ℕ} (closed : ℕ) {ts : List Token} {item : TypeTree}
      → WholeType ts item → WholeType (token LeftBracket at ∷ (ts ++ (token RightBracket closed ∷ []))) (vector_type at item)
  -- `{item}` is a sequence
  sequence_rule : {at : ℕ} (closed : ℕ) {ts : List Token} {item : TypeTree}
      → WholeType ts item → WholeType (token LeftBrace at ∷ (ts ++ (token RightBrace closed ∷ []))) (sequence_type at item)

-- a type of at most this depth begins with the tokens
pub data FrontType : ℕ → List Token → Type 0 where
  -- no tokens yet
  no_type : {deep : ℕ} → FrontType (suc deep) []
  -- a whole type begins itself
  whole_type : {deep : ℕ} {ts : List Token} {tree : TypeTree} → WholeType ts tree → type_depth tree ≤ deep → FrontType deep ts
  -- the tokens end in the first part of a pair
  pair_type_first : {deep at : ℕ} {ts : List Token} → FrontType deep ts → FrontType (suc deep) (token LeftParen at ∷ ts)
  -- the tokens end in its second part
  pair_type_second : {deep at : ℕ} (comma : ℕ) {ts us : List Token} {first : TypeTree}
      → WholeType ts first → type_depth first ≤ deep → FrontType deep us
      → FrontType (suc deep) (token LeftParen at ∷ (ts ++ (token Comma comma ∷ us)))
  -- the tokens end in the item of a vector
  vector_item : {deep at : ℕ} {ts : List Token} → FrontType deep ts → FrontType (suc deep) (token LeftBracket at ∷ ts)
  -- the tokens end in the item of a sequence
  sequence_item : {deep at : ℕ} {ts : List Token} → FrontType deep ts → FrontType (suc deep) (token LeftBrace at ∷ ts)
