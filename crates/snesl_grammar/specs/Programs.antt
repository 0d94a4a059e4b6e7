-- Which tokens are a program, and which begin one.
use Rattle.std.specs.Prelude.{ℕ, suc, pos, max, ◌≤◌, List, [], ◌∷◌, ◌++◌}
use Rattle.snesl_data.specs.declared.dialect.Dialect.{Dialect}
use Rattle.snesl_data.specs.declared.dialect.Dialect.TheVariants.{One, Two}
use Rattle.snesl_grammar.specs.declared.lexer.token.TokenKind.TheVariants.{Integer, Dialect as DialectWord, Input, Function, LeftParen, RightParen, Colon, Semicolon, Comma, Equals}
use Rattle.snesl_grammar.specs.declared.lexer.token.Token.{Token}
use Rattle.snesl_grammar.specs.declared.tree.span.Span.{Span}
use Rattle.snesl_grammar.specs.tree.Tree.{Tree, depth, TypeTree, type_depth, TypedName, DeclarationTree, declares_input, declares_function, ProgramTree}
use Rattle.snesl_grammar.specs.Expressions.{token, name_token, Whole, Front}
use Rattle.snesl_grammar.specs.Types.{WholeType, FrontType}

-- the name at a place, with its type
abbrev pub typed : Span → TypeTree → TypedName
typed place written = record { place = place; written = written }

-- the depth of the deepest type among these parameters'
abbrev pub parameters_depth : List TypedName → ℕ
parameters_depth [] = 0
parameters_depth (first ∷ others) = max (type_depth first.written) (parameters_depth others)

-- the depth of the deepest type or body in a declaration
abbrev pub declaration_depth : DeclarationTree → ℕ
declaration_depth (declares_input declared) = type_depth declared.written
declaration_depth (declares_function place parameters result body) = max (parameters_depth parameters) (max (type_depth result) (depth body))

abbrev pub declarations_depth : List DeclarationTree → ℕ
declarations_depth [] = 0
declarations_depth (first ∷ others) = max (declaration_depth first) (declarations_depth others)

-- the depth of the deepest type, body or expression in a program; declarations have none of their own
abbrev pub program_depth : ProgramTree → ℕ
program_depth program = max (declarations_depth program.declarations) (depth program.expression)

-- the tokens are these parameters, parted by commas: one or more
pub data WholeParameters : List Token → List TypedName → Type 0 where
  -- one parameter: a name, and after a colon its type
  one_parameter : (place : Span) (colon : ℕ) {ts : List Token} {written : TypeTree}
      → WholeType ts written → WholeParameters (name_token place ∷ token Colon colon ∷ ts) (typed place written ∷ [])
  -- parameters, and after a comma one more
  more_parameters : (comma : ℕ) (place : Span) (colon : ℕ) {ts us : List Token} {given : List TypedName} {written : TypeTree}
      → WholeParameters ts given → WholeType us written
      → WholeParameters (ts ++ (token Comma comma ∷ name_token place ∷ token Colon colon ∷ us)) (given ++ typed place written ∷ [])

-- the tokens are this declaration
pub data WholeDeclaration : List Token → DeclarationTree → Type 0 where
  -- `input name : type;`
  input_rule : (at : ℕ) (place : Span) (colon semicolon : ℕ) {ts : List Token} {written : TypeTree}
      → WholeType ts written
      → WholeDeclaration (token Input at ∷ name_token place ∷ token Colon colon ∷ (ts ++ (token Semicolon semicolon ∷ [])))
      (declares_input (typed place written))
  -- `function name(parameters) : type = body;`
  function_rule : (at : ℕ) (place : Span) (opened closed colon equals semicolon : ℕ) {ts us vs : List Token}
      {parameters : List TypedName} {result : TypeTree} {body : Tree}
      → WholeParameters ts parameters → WholeType us result → Whole 0 vs body
      → WholeDeclaration (token Function at ∷ name_token place ∷ token LeftParen opened
      ∷ (ts ++ (token RightParen closed ∷ token Colon colon ∷ (us ++ (token Equals equals ∷ (vs ++ (token Semicolon semicolon ∷ [])))))))
      (declares_function place parameters result body)

-- the tokens are these declarations: none or more
pub data WholeDeclarations : List Token → List DeclarationTree → Type 0 where
  no_declarations : WholeDeclarations [] []
  -- declarations, and one more
  more_declarations : {ts us : List Token} {given : List DeclarationTree} {last : DeclarationTree}
      → WholeDeclarations ts given → WholeDeclaration us last → WholeDeclarations (ts ++ us) (given ++ last ∷ [])

-- the tokens name this dialect: none name the first, and `dialect 2;` names the second
pub data WholeDialect : List Token → Dialect → Type 0 where
  no_dialect : WholeDialect [] One
  dialect_rule : (at number semicolon : ℕ)
      → WholeDialect (token DialectWord at ∷ token (Integer (pos 2)) number ∷ token Semicolon semicolon ∷ []) Two

-- the tokens are this program: its dialect, its declarations, and then its expression
pub data WholeProgram : List Token → ProgramTree → Type 0 where
  program_rule : {named ts us : List Token} {dialect : Dialect} {declarations : List DeclarationTree} {expression : Tree}
      → WholeDialect named dialect → WholeDeclarations ts declarations → Whole 0 us expression
      → WholeProgram (named ++ (ts ++ us)) (record { dialect = dialect; declarations = declarations; expression = expression })

-- a parameter whose type has at most this depth begins with the tokens
pub data FrontParameter : ℕ → List Token → Type 0 where
  -- no tokens yet, or the tokens end after the name
  no_parameter : {deep : ℕ} → FrontParameter (suc deep) []
  parameter_name : {deep : ℕ} (place : Span) → FrontParameter (suc deep) (name_token place ∷ [])
  -- the tokens end in the type
  parameter_type : {deep : ℕ} (place : Span) (colon : ℕ) {ts : List Token}
      → FrontType deep ts → FrontParameter deep (name_token place ∷ token Colon colon ∷ ts)

-- parameters whose types have at most this depth begin with the tokens
pub data FrontParameters : ℕ → List Token → Type 0 where
  -- the tokens end in the first parameter
  first_parameter : {deep : ℕ} {ts : List Token} → FrontParameter deep ts → FrontParameters deep ts
  -- the tokens end in a later parameter
  next_parameter : {deep : ℕ} (comma : ℕ) {ts us : List Token} {given : List TypedName}
      → WholeParameters ts given → parameters_depth given ≤ deep → FrontParameter deep us
      → FrontParameters deep (ts ++ (token Comma comma ∷ us))

-- a declaration of at most this depth begins with the tokens
pub data FrontDeclaration : ℕ → List Token → Type 0 where
  -- the tokens end after `input`, after the name, in the type
  input_word : {deep : ℕ} (at : ℕ) → FrontDeclaration (suc deep) (token Input at ∷ [])
  input_name : {deep : ℕ} (at : ℕ) (place : Span) → FrontDeclaration (suc deep) (token Input at ∷ name_token place ∷ [])
  input_type : {deep : ℕ} (at : ℕ) (place : Span) (colon : ℕ) {ts : List Token}
      → FrontType deep ts → FrontDeclaration deep (token Input at ∷ name_token place ∷ token Colon colon ∷ ts)
  -- the tokens end after `function`, after the name, in the parameters
  function_word : {deep : ℕ} (at : ℕ) → FrontDeclaration (suc deep) (token Function at ∷ [])
  function_name : {deep : ℕ} (at : ℕ) (place : Span) → FrontDeclaration (suc deep) (token Function at ∷ name_token place ∷ [])
  function_parameters : {deep : ℕ} (at : ℕ) (place : Span) (opened : ℕ) {ts : List Token}
      → FrontParameters deep ts → FrontDeclaration deep (token Function at ∷ name_token place ∷ token LeftParen opened ∷ ts)
  -- the tokens end after the parameters, in the type of the result, in the body
  function_closed : {deep : ℕ} (at : ℕ) (place : Span) (opened closed : ℕ) {ts : List Token} {parameters : List TypedName}
      → WholeParameters ts parameters → parameters_depth parameters ≤ deep
      → FrontDeclaration deep (token Function at ∷ name_token place ∷ token LeftParen opened ∷ (ts ++ (token RightParen closed ∷ [])))
  function_result : {deep : ℕ} (at : ℕ) (place : Span) (opened closed colon : ℕ) {ts us : List Token} {parameters : List TypedName}
      → WholeParameters ts parameters → parameters_depth parameters ≤ deep → FrontType deep us
      → FrontDeclaration deep (token Function at ∷ name_token place ∷ token LeftParen opened
      ∷ (ts ++ (token RightParen closed ∷ token Colon colon ∷ us)))
  function_body : {deep : ℕ} (at : ℕ) (place : Span) (opened closed colon equals : ℕ) {ts us vs : List Token}
      {parameters : List TypedName} {result : TypeTree}
      → WholeParameters ts parameters → parameters_depth parameters ≤ deep → WholeType us result → type_depth result ≤ deep
      → Front 0 deep vs
      → FrontDeclaration deep (token Function at ∷ name_token place ∷ token LeftParen opened
      ∷ (ts ++ (token RightParen closed ∷ token Colon colon ∷ (us ++ (token Equals equals ∷ vs)))))

-- a program of at most this depth begins with the tokens
pub data FrontProgram : ℕ → List Token → Type 0 where
  -- the tokens end in the dialect, after `dialect` or after 2
  dialect_word : {deep : ℕ} (at : ℕ) → FrontProgram (suc deep) (token DialectWord at ∷ [])
  dialect_number : {deep : ℕ} (at number : ℕ) → FrontProgram (suc deep) (token DialectWord at ∷ token (Integer (pos 2)) number ∷ [])
  -- the tokens end in a declaration
  in_declaration : {deep : ℕ} {named ts us : List Token} {dialect : Dialect} {done : List DeclarationTree}
      → WholeDialect named dialect → WholeDeclarations ts done → declarations_depth done ≤ deep → FrontDeclaration deep us
      → FrontProgram deep (named ++ (ts ++ us))
  -- the tokens end in the expression
  in_expression : {deep : ℕ} {named ts us : List Token} {dialect : Dialect} {done : List DeclarationTree}
      → WholeDialect named dialect → WholeDeclarations ts done → declarations_depth done ≤ deep → Front 0 deep us
      → FrontProgram deep (named ++ (ts ++ us))
