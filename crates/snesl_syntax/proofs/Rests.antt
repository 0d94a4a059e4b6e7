-- Which tokens are a program after its dialect, and which begin one.
use Rattle.std.proofs.Common.{ℕ, max, ◌≤◌, List, ◌++◌}
use Rattle.snesl_grammar.specs.declared.lexer.token.Token.{Token}
use Rattle.snesl_grammar.specs.tree.Tree.{Tree, depth, DeclarationTree}
use Rattle.snesl_grammar.specs.Expressions.{Whole, Front}
use Rattle.snesl_grammar.specs.Programs.{declarations_depth, WholeDeclarations, FrontDeclaration}
use Rattle.snesl_syntax.specs.expressions.Readers.{Reader, IsReaderOf}
use Rattle.snesl_syntax.specs.Programs.{Rest}

abbrev pub rest_depth : Rest → ℕ
rest_depth rest = max (declarations_depth rest.declarations) (depth rest.expression)

-- the tokens are this rest of a program: its declarations, and then its expression
pub data WholeRest : List Token → Rest → Type 0 where
  rest_rule : {ts us : List Token} {declarations : List DeclarationTree} {expression : Tree}
      → WholeDeclarations ts declarations → Whole 0 us expression
      → WholeRest (ts ++ us) (record { declarations = declarations; expression = expression })

-- a rest of at most this depth begins with the tokens: they end in a declaration, or in the expression
pub data FrontRest : ℕ → List Token → Type 0 where
  rest_in_declaration : {deep : ℕ} {ts us : List Token} {done : List DeclarationTree}
      → WholeDeclarations ts done → declarations_depth done ≤ deep → FrontDeclaration deep us → FrontRest deep (ts ++ us)
  rest_in_expression : {deep : ℕ} {ts us : List Token} {done : List DeclarationTree}
      → WholeDeclarations ts done → declarations_depth done ≤ deep → Front 0 deep us → FrontRest deep (ts ++ us)

abbrev pub IsReaderOfRests : {State : Type 0} → Reader State Rest → Type 0
IsReaderOfRests reader = IsReaderOf reader WholeRest FrontRest rest_depth (λ kind. ⊥)
