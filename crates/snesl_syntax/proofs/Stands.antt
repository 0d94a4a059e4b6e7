-- What was read of a program after its dialect stands in the grammar.
use Rattle.std.proofs.Common.{◌≡◌, ℕ, suc, max, ◌≤◌, List, [], ◌∷◌, ◌++◌, Option, Some, None, Ok, refl, sym, subst, arith, append_assoc}
use Rattle.std.proofs.lemmas.List.{append-nil}
use Rattle.snesl_grammar.specs.declared.lexer.token.TokenKind.{TokenKind}
use Rattle.snesl_grammar.specs.declared.lexer.token.TokenKind.TheVariants.{Name, Input, Function, LeftParen, RightParen, Colon, Semicolon, Comma, Equals}
use Rattle.snesl_grammar.specs.declared.lexer.token.Token.{Token}
use Rattle.snesl_grammar.specs.declared.tree.span.Span.{Span}
use Rattle.snesl_grammar.specs.tree.Tree.{Tree, depth, TypeTree, type_depth, TypedName, DeclarationTree, declares_input, declares_function}
use Rattle.snesl_grammar.specs.Expressions.{token, name_token, Whole, Front, nothing}
use Rattle.snesl_syntax.specs.expressions.Readers.{TokenMove, Reader, after_tokens}
use Rattle.snesl_syntax.proofs.OfExpressions.Reading.{ends_with, fits_step}
use Rattle.snesl_grammar.specs.Types.{WholeType, FrontType}
use Rattle.snesl_syntax.specs.Types.{TypeState, types}
use Rattle.snesl_grammar.specs.Programs.{typed, parameters_depth, declaration_depth, declarations_depth, WholeParameters, one_parameter}
use Rattle.snesl_grammar.specs.Programs.{more_parameters, WholeDeclaration, input_rule, function_rule, WholeDeclarations, no_declarations}
use Rattle.snesl_grammar.specs.Programs.{more_declarations, FrontParameter, no_parameter, parameter_name, parameter_type, FrontParameters}
use Rattle.snesl_grammar.specs.Programs.{first_parameter, next_parameter, FrontDeclaration, input_word, input_name, input_type, function_word}
use Rattle.snesl_grammar.specs.Programs.{function_name, function_parameters, function_closed, function_result, function_body}
use Rattle.snesl_syntax.specs.Programs.{Rest, TypeOf, of_input, of_parameter, of_result, Header, ProgramState, between, awaits_input}
use Rattle.snesl_syntax.specs.Programs.{awaits_input_colon, awaits_function, awaits_open, awaits_parameter, awaits_parameter_colon, awaits_result}
use Rattle.snesl_syntax.specs.Programs.{in_type, in_body, in_final, lifted, when_whole, span, body_end, type_end, fixed_move, with_expression}
use Rattle.snesl_syntax.specs.Programs.{programs}
use Rattle.snesl_syntax.proofs.Moves.{Good, good_or, good_carried, good_when, go_stands}
use Rattle.snesl_syntax.proofs.TypesRead.{types_are_read}
use Rattle.snesl_syntax.proofs.Rests.{rest_depth, WholeRest, rest_rule, FrontRest, rest_in_declaration, rest_in_expression}
use Rattle.snesl_syntax.proofs.Runs.{depth-parameters, depth-declarations, ReadsExpressions}

-- the tokens are these declarations, within the depth
pub record Declared (d : ℕ) (done : List DeclarationTree) (ts : List Token) : Type 0 where
  pub are : WholeDeclarations ts done
  pub shallow : declarations_depth done ≤ d

-- the tokens after a function's opening parenthesis that lead to its next parameter
pub data Given : ℕ → List TypedName → List Token → Type 0 where
  given_none : {d : ℕ} → Given d [] []
  given_more : {d : ℕ} (comma : ℕ) {given : List TypedName} {ts : List Token}
      → WholeParameters ts given → parameters_depth given ≤ d → Given d given (ts ++ (token Comma comma ∷ []))

-- the tokens that lead to a type
pub data Opens : ℕ → TypeOf → List Token → Type 0 where
  opens_input : {d : ℕ} (at : ℕ) (place : Span) (colon : ℕ) {done : List DeclarationTree} {ts : List Token}
      → Declared d done ts → Opens d (of_input done place) (ts ++ (token Input at ∷ name_token place ∷ token Colon colon ∷ []))
  opens_parameter : {d : ℕ} (at : ℕ) (function : Span) (opened : ℕ) (place : Span) (colon : ℕ) {done : List DeclarationTree} {given : List TypedName}
      {ts us : List Token} → Declared d done ts → Given d given us
      → Opens d (of_parameter done function given place)
      (ts ++ (token Function at ∷ name_token function ∷ token LeftParen opened ∷ (us ++ (name_token place ∷ token Colon colon ∷ []))))
  opens_result : {d : ℕ} (at : ℕ) (function : Span) (opened closed colon : ℕ) {done : List DeclarationTree} {parameters : List TypedName}
      {ts us : List Token} → Declared d done ts → WholeParameters us parameters → parameters_depth parameters ≤ d
      → Opens d (of_result done function parameters)
      (ts ++ (token Function at ∷ name_token function ∷ token LeftParen opened ∷ (us ++ (token RightParen closed ∷ token Colon colon ∷ []))))

-- the tokens that lead to a body
pub data OpensBody : ℕ → Header → List Token → Type 0 where
  opens_body : {d : ℕ} (at : ℕ) (function : Span) (opened closed colon equals : ℕ) {done : List DeclarationTree} {parameters : List TypedName} {result : TypeTree}
      {ts us vs : List Token} → Declared d done ts → WholeParameters us parameters → parameters_depth parameters ≤ d
      → WholeType vs result → type_depth result ≤ d
      → OpensBody d (record { done = done; function = function; parameters = parameters; result = result })
      (ts ++ (token Function at ∷ name_token function ∷ token LeftParen opened
      ∷ (us ++ (token RightParen closed ∷ token Colon colon ∷ (vs ++ (token Equals equals ∷ []))))))

-- the parameters after one more, and their depth
pub given_and : {d : ℕ} {given : List TypedName} {us : List Token} → Given d given us → (place : Span) (colon : ℕ) (vs : List Token) (written : TypeTree)
    → WholeType vs written → type_depth written ≤ d
    → WholeParameters (us ++ (name_token place ∷ token Colon colon ∷ vs)) (given ++ typed place written ∷ [])
    × (parameters_depth (given ++ typed place written ∷ []) ≤ d)
given_and given_none place colon vs written w h = (one_parameter place colon w, omega arith)
given_and (given_more comma {given = given} {ts = ts} ws k) place colon vs written w h =
    let deep : parameters_depth (given ++ typed place written ∷ []) ≡ max (parameters_depth given) (type_depth written) = depth-parameters given (typed place written) in
    (subst (λ x. WholeParameters x (given ++ typed place written ∷ [])) (simp append_assoc) (more_parameters comma place colon ws w), omega arith)

-- parameters that go on with the tokens of one more begin with both
given_front : {d : ℕ} {given : List TypedName} {us : List Token} → Given d given us → (vs : List Token) → FrontParameter d vs → FrontParameters d (us ++ vs)
given_front given_none vs f = first_parameter f
given_front {d = d} (given_more comma {ts = ts} ws h) vs f =
    subst (FrontParameters d) (sym (append_assoc ts (token Comma comma ∷ []) vs)) (next_parameter comma ws h f)

-- one declaration more
declared_more : {d : ℕ} {done : List DeclarationTree} {ts us : List Token} {last : DeclarationTree} → Declared d done ts → WholeDeclaration us last
    → declaration_depth last ≤ d → Declared d (done ++ last ∷ []) (ts ++ us)
declared_more {done = done} {last = last} h w k =
    let deep : declarations_depth (done ++ last ∷ []) ≡ max (declarations_depth done) (declaration_depth last) = depth-declarations done last in
    let shallow : declarations_depth done ≤ _ = h.shallow in
    record { are = more_declarations h.are w; shallow = omega arith }

module _ {State : Type 0} (expressions : Reader State Tree) (right : ReadsExpressions expressions) where
  abbrev reader : Reader (ProgramState State) Rest
  reader = programs expressions

  -- the tokens that lead to a state
  pub data Stands : ℕ → ProgramState State → List Token → Type 0 where
    stands_between : {d : ℕ} {done : List DeclarationTree} {ts : List Token} → Declared d done ts → Stands d (between done) ts
    stands_input : {d : ℕ} (at : ℕ) {done : List DeclarationTree} {ts : List Token}
        → Declared d done ts → Stands d (awaits_input done) (ts ++ (token Input at ∷ []))
    stands_input_colon : {d : ℕ} (at : ℕ) (place : Span) {done : List DeclarationTree} {ts : List Token}
        → Declared d done ts → Stands d (awaits_input_colon done place) (ts ++ (token Input at ∷ name_token place ∷ []))
    stands_function : {d : ℕ} (at : ℕ) {done : List DeclarationTree} {ts : List Token}
        → Declared d done ts → Stands d (awaits_function done) (ts ++ (token Function at ∷ []))
    stands_open : {d : ℕ} (at : ℕ) (function : Span) {done : List DeclarationTree} {ts : List Token}
        → Declared d done ts → Stands d (awaits_open done function) (ts ++ (token Function at ∷ name_token function ∷ []))
    stands_parameter : {d : ℕ} (at : ℕ) (function : Span) (opened : ℕ) {done : List DeclarationTree} {given : List TypedName} {ts us : List Token}
        → Declared d done ts → Given d given us
        → Stands d (awaits_parameter done function given) (ts ++ (token Function at ∷ name_token function ∷ token LeftParen opened ∷ us))
    stands_parameter_colon : {d : ℕ} (at : ℕ) (function : Span) (opened : ℕ) (place : Span) {done : List DeclarationTree} {given : List TypedName} {ts us : List Token}
        → Declared d done ts → Given d given us
        → Stands d (awaits_parameter_colon done function given place)
        (ts ++ (token Function at ∷ name_token function ∷ token LeftParen opened ∷ (us ++ (name_token place ∷ []))))
    stands_result : {d : ℕ} (at : ℕ) (function : Span) (opened closed : ℕ) {done : List DeclarationTree} {parameters : List TypedName} {ts us : List Token}
        → Declared d done ts → WholeParameters us parameters → parameters_depth parameters ≤ d
        → Stands d (awaits_result done function parameters)
        (ts ++ (token Function at ∷ name_token function ∷ token LeftParen opened ∷ (us ++ (token RightParen closed ∷ []))))
    stands_type : {d : ℕ} {owner : TypeOf} {s : TypeState} {ts : List Token} (us : List Token)
        → Opens d owner ts → after_tokens types d types.start us ≡ Ok s → Stands d (in_type owner s) (ts ++ us)
    stands_body : {d : ℕ} {header : Header} {s : State} {ts : List Token} (us : List Token)
        → OpensBody d header ts → after_tokens expressions d expressions.start us ≡ Ok s → Stands d (in_body header s) (ts ++ us)
    stands_final : {d : ℕ} {done : List DeclarationTree} {s : State} {ts : List Token} (us : List Token)
        → Declared d done ts → after_tokens expressions d expressions.start us ≡ Ok s → Stands d (in_final done s) (ts ++ us)

  abbrev Keeps : ℕ → List Token → Token → Option (TokenMove (ProgramState State)) → Type 0
  Keeps d ts t m = Good (λ found. found.want ≤ d → Stands d found.next (ts ++ (t ∷ []))) m

  along : (d : ℕ) (s : ProgramState State) {ts us : List Token} → ts ≡ us → Stands d s ts → Stands d s us
  along d s e h = subst (Stands d s) e h

  -- a part that goes on is read with one token more
  goes_further : {Inner Form : Type 0} (part : Reader Inner Form) (d : ℕ) (s : Inner) (ts : List Token) (t : Token) (found : TokenMove Inner)
      → after_tokens part d part.start ts ≡ Ok s → part.move s t ≡ Some found → found.want ≤ d → after_tokens part d part.start (ts ++ (t ∷ [])) ≡ Ok found.next
  goes_further part d s ts t found e f h = ends_with part d part.start s found.next ts t e (fits_step part d s found.next t found.want f h)

  between_keeps : {d : ℕ} {done : List DeclarationTree} {ts : List Token} → Declared d done ts → (k : TokenKind) (at : ℕ)
      → Keeps d ts (token k at) (fixed_move expressions (between done) k at)
  between_keeps h Input at = λ want. stands_input at h
  between_keeps h Function at = λ want. stands_function at h
  between_keeps h _ at = tt

  input_keeps : {d : ℕ} (begun : ℕ) {done : List DeclarationTree} {ts : List Token} → Declared d done ts → (k : TokenKind) (at : ℕ)
      → Keeps d (ts ++ (token Input begun ∷ [])) (token k at) (fixed_move expressions (awaits_input done) k at)
  input_keeps {d = d} begun {done = done} {ts = ts} h (Name len) at = λ want.
      along d (awaits_input_colon done (span at len)) (simp append_assoc) (stands_input_colon begun (span at len) h)
  input_keeps begun h _ at = tt

  input_colon_keeps : {d : ℕ} (begun : ℕ) (place : Span) {done : List DeclarationTree} {ts : List Token} → Declared d done ts → (k : TokenKind) (at : ℕ)
      → Keeps d (ts ++ (token Input begun ∷ name_token place ∷ [])) (token k at) (fixed_move expressions (awaits_input_colon done place) k at)
  input_colon_keeps {d = d} begun place {done = done} {ts = ts} h Colon at = λ want.
      along d (in_type (of_input done place) types.start) (simp (append_assoc, append-nil)) (stands_type [] (opens_input begun place at h) refl)
  input_colon_keeps begun place h _ at = tt

  function_keeps : {d : ℕ} (begun : ℕ) {done : List DeclarationTree} {ts : List Token} → Declared d done ts → (k : TokenKind) (at : ℕ)
      → Keeps d (ts ++ (token Function begun ∷ [])) (token k at) (fixed_move expressions (awaits_function done) k at)
  function_keeps {d = d} begun {done = done} {ts = ts} h (Name len) at = λ want.
      along d (awaits_open done (span at len)) (simp append_assoc) (stands_open begun (span at len) h)
  function_keeps begun h _ at = tt

  open_keeps : {d : ℕ} (begun : ℕ) (function : Span) {done : List DeclarationTree} {ts : List Token} → Declared d done ts → (k : TokenKind) (at : ℕ)
      → Keeps d (ts ++ (token Function begun ∷ name_token function ∷ [])) (token k at) (fixed_move expressions (awaits_open done function) k at)
  open_keeps {d = d} begun function {done = done} {ts = ts} h LeftParen at = λ want.
      along d (awaits_parameter done function []) (simp append_assoc) (stands_parameter begun function at h given_none)
  open_keeps begun function h _ at = tt

  parameter_keeps : {d : ℕ} (begun : ℕ) (function : Span) (opened : ℕ) {done : List DeclarationTree} {given : List TypedName} {ts us : List Token}
      → Declared d done ts → Given d given us → (k : TokenKind) (at : ℕ)
      → Keeps d (ts ++ (token Function begun ∷ name_token function ∷ token LeftParen opened ∷ us)) (token k at)
      (fixed_move expressions (awaits_parameter done function given) k at)
  parameter_keeps {d = d} begun function opened {done = done} {given = given} {ts = ts} {us = us} h g (Name len) at = λ want.
      along d (awaits_parameter_colon done function given (span at len)) (simp append_assoc) (stands_parameter_colon begun function opened (span at len) h g)
  parameter_keeps begun function opened h g _ at = tt

  parameter_colon_keeps : {d : ℕ} (begun : ℕ) (function : Span) (opened : ℕ) (place : Span) {done : List DeclarationTree} {given : List TypedName} {ts us : List Token}
      → Declared d done ts → Given d given us → (k : TokenKind) (at : ℕ)
      → Keeps d (ts ++ (token Function begun ∷ name_token function ∷ token LeftParen opened ∷ (us ++ (name_token place ∷ [])))) (token k at)
      (fixed_move expressions (awaits_parameter_colon done function given place) k at)
  parameter_colon_keeps {d = d} begun function opened place {done = done} {given = given} {ts = ts} {us = us} h g Colon at = λ want.
      along d (in_type (of_parameter done function given place) types.start) (simp (append_assoc, append-nil))
      (stands_type [] (opens_parameter begun function opened place at h g) refl)
  parameter_colon_keeps begun function opened place h g _ at = tt

  result_keeps : {d : ℕ} (begun : ℕ) (function : Span) (opened closed : ℕ) {done : List DeclarationTree} {parameters : List TypedName} {ts us : List Token}
      → Declared d done ts → WholeParameters us parameters → parameters_depth parameters ≤ d → (k : TokenKind) (at : ℕ)
      → Keeps d (ts ++ (token Function begun ∷ name_token function ∷ token LeftParen opened ∷ (us ++ (token RightParen closed ∷ [])))) (token k at)
      (fixed_move expressions (awaits_result done function parameters) k at)
  result_keeps {d = d} begun function opened closed {done = done} {parameters = parameters} {ts = ts} {us = us} h w k Colon at = λ want.
      along d (in_type (of_result done function parameters) types.start) (simp (append_assoc, append-nil))
      (stands_type [] (opens_result begun function opened closed at h w k) refl)
  result_keeps begun function opened closed h w k _ at = tt

  -- the end of the type of an input, of a parameter, of a result
  input_end_keeps : {d : ℕ} (begun : ℕ) (place : Span) (colon : ℕ) {done : List DeclarationTree} {ts : List Token} → Declared d done ts
      → (us : List Token) (written : TypeTree) → WholeType us written → type_depth written ≤ d → (k : TokenKind) (at : ℕ)
      → Keeps d ((ts ++ (token Input begun ∷ name_token place ∷ token Colon colon ∷ [])) ++ us) (token k at) (type_end expressions (of_input done place) k written)
  input_end_keeps {d = d} begun place colon {done = done} {ts = ts} h us written w fits Semicolon at = λ want.
      along d (between (done ++ declares_input (typed place written) ∷ [])) (simp append_assoc)
      (stands_between (declared_more h (input_rule begun place colon at w) fits))
  input_end_keeps begun place colon h us written w fits _ at = tt

  parameter_end_keeps : {d : ℕ} (begun : ℕ) (function : Span) (opened : ℕ) (place : Span) (colon : ℕ) {done : List DeclarationTree} {given : List TypedName}
      {ts vs : List Token} → Declared d done ts → Given d given vs
      → (us : List Token) (written : TypeTree) → WholeType us written → type_depth written ≤ d → (k : TokenKind) (at : ℕ)
      → Keeps d ((ts ++ (token Function begun ∷ name_token function ∷ token LeftParen opened ∷ (vs ++ (name_token place ∷ token Colon colon ∷ [])))) ++ us) (token k at)
      (type_end expressions (of_parameter done function given place) k written)
  parameter_end_keeps {d = d} begun function opened place colon {done = done} {given = given} {ts = ts} {vs = vs} h g us written w fits Comma at = λ want.
      let more = given_and g place colon us written w fits in
      along d (awaits_parameter done function (given ++ typed place written ∷ [])) (simp append_assoc)
      (stands_parameter begun function opened h (given_more at more.0 more.1))
  parameter_end_keeps {d = d} begun function opened place colon {done = done} {given = given} {ts = ts} {vs = vs} h g us written w fits RightParen at = λ want.
      let more = given_and g place colon us written w fits in
      along d (awaits_result done function (given ++ typed place written ∷ [])) (simp append_assoc)
      (stands_result begun function opened at h more.0 more.1)
  parameter_end_keeps begun function opened place colon h g us written w fits _ at = tt

  result_end_keeps : {d : ℕ} (begun : ℕ) (function : Span) (opened closed colon : ℕ) {done : List DeclarationTree} {parameters : List TypedName}
      {ts vs : List Token} → Declared d done ts → WholeParameters vs parameters → parameters_depth parameters ≤ d
      → (us : List Token) (written : TypeTree) → WholeType us written → type_depth written ≤ d → (k : TokenKind) (at : ℕ)
      → Keeps d ((ts ++ (token Function begun ∷ name_token function ∷ token LeftParen opened ∷ (vs ++ (token RightParen closed ∷ token Colon colon ∷ [])))) ++ us) (token k at)
      (type_end expressions (of_result done function parameters) k written)
  result_end_keeps {d = d} begun function opened closed colon {done = done} {parameters = parameters} {ts = ts} {vs = vs} h ws room us written w fits Equals at = λ want.
      along d (in_body (record { done = done; function = function; parameters = parameters; result = written }) expressions.start) (simp (append_assoc, append-nil))
      (stands_body [] (opens_body begun function opened closed colon at h ws room w fits) refl)
  result_end_keeps begun function opened closed colon h ws room us written w fits _ at = tt

  type_end_keeps : {d : ℕ} {owner : TypeOf} {ts : List Token} → Opens d owner ts → (us : List Token) (written : TypeTree)
      → WholeType us written → type_depth written ≤ d → (k : TokenKind) (at : ℕ) → Keeps d (ts ++ us) (token k at) (type_end expressions owner k written)
  type_end_keeps (opens_input begun place colon h) us written w fits k at = input_end_keeps begun place colon h us written w fits k at
  type_end_keeps (opens_parameter begun function opened place colon h g) us written w fits k at =
      parameter_end_keeps begun function opened place colon h g us written w fits k at
  type_end_keeps (opens_result begun function opened closed colon h ws room) us written w fits k at =
      result_end_keeps begun function opened closed colon h ws room us written w fits k at

  -- the end of a body
  body_end_keeps : {d : ℕ} {header : Header} {ts : List Token} → OpensBody d header ts → (us : List Token) (body : Tree)
      → Whole 0 us body → depth body ≤ d → (k : TokenKind) (at : ℕ) → Keeps d (ts ++ us) (token k at) (body_end header k body)
  body_end_keeps {d = d}
      (opens_body begun function opened closed colon equals {done = done} {parameters = parameters} {result = result} {ts = ts} {us = vs} {vs = ws} h wp
      roomy wr room) us body w fits Semicolon at = λ want.
      along d (between (done ++ declares_function function parameters result body ∷ [])) (simp append_assoc)
      (stands_between (declared_more h (function_rule begun function opened closed colon equals at wp wr w) (omega arith)))
  body_end_keeps o us body w fits _ at = tt

  step_keeps : (d : ℕ) → 1 ≤ d → (s : ProgramState State) (ts : List Token) (t : Token) → Stands d s ts → Keeps d ts t (reader.move s t)
  step_keeps d least s ts t (stands_between {done = done} h) =
      good_or (λ found. found.want ≤ d → Stands d found.next (ts ++ (t ∷ [])))
      (lifted (in_final done) (expressions.move expressions.start t)) (fixed_move expressions (between done) t.kind t.at)
      (good_carried (λ found. found.want ≤ d → Stands d found.next (ts ++ (t ∷ []))) (in_final done) (expressions.move expressions.start t)
      (λ found f want. stands_final (t ∷ []) h (goes_further expressions d expressions.start [] t found refl f want)))
      (between_keeps h t.kind t.at)
  step_keeps d least s ts t (stands_input begun h) = input_keeps begun h t.kind t.at
  step_keeps d least s ts t (stands_input_colon begun place h) = input_colon_keeps begun place h t.kind t.at
  step_keeps d least s ts t (stands_function begun h) = function_keeps begun h t.kind t.at
  step_keeps d least s ts t (stands_open begun function h) = open_keeps begun function h t.kind t.at
  step_keeps d least s ts t (stands_parameter begun function opened h g) = parameter_keeps begun function opened h g t.kind t.at
  step_keeps d least s ts t (stands_parameter_colon begun function opened place h g) = parameter_colon_keeps begun function opened place h g t.kind t.at
  step_keeps d least s ts t (stands_result begun function opened closed h w room) = result_keeps begun function opened closed h w room t.kind t.at
  step_keeps d least s all t (stands_type {owner = owner} {s = state} {ts = ts} us o e) =
      good_or (λ found. found.want ≤ d → Stands d found.next (all ++ (t ∷ [])))
      (lifted (in_type owner) (types.move state t)) (when_whole (types.finished state) (type_end expressions owner t.kind))
      (good_carried (λ found. found.want ≤ d → Stands d found.next (all ++ (t ∷ []))) (in_type owner) (types.move state t)
      (λ found f want. along d (in_type owner found.next) (sym (append_assoc ts us (t ∷ []))) (stands_type (us ++ (t ∷ [])) o (goes_further types d state us t found e f want))))
      (good_when (λ found. found.want ≤ d → Stands d found.next (all ++ (t ∷ []))) (types.finished state) (type_end expressions owner t.kind)
      (λ written f. let w = types_are_read.whole d us state written least e f in type_end_keeps o us written w.0 w.1 t.kind t.at))
  step_keeps d least s all t (stands_body {header = header} {s = state} {ts = ts} us o e) =
      good_or (λ found. found.want ≤ d → Stands d found.next (all ++ (t ∷ [])))
      (lifted (in_body header) (expressions.move state t)) (when_whole (expressions.finished state) (body_end header t.kind))
      (good_carried (λ found. found.want ≤ d → Stands d found.next (all ++ (t ∷ []))) (in_body header) (expressions.move state t)
      (λ found f want. along d (in_body header found.next) (sym (append_assoc ts us (t ∷ []))) (stands_body (us ++ (t ∷ [])) o (goes_further expressions d state us t found e f want))))
      (good_when (λ found. found.want ≤ d → Stands d found.next (all ++ (t ∷ []))) (expressions.finished state) (body_end header t.kind)
      (λ body f. let w = right.is.whole d us state body least e f in body_end_keeps o us body w.0 w.1 t.kind t.at))
  step_keeps d least s all t (stands_final {done = done} {s = state} {ts = ts} us h e) =
      good_carried (λ found. found.want ≤ d → Stands d found.next (all ++ (t ∷ []))) (in_final done) (expressions.move state t)
      (λ found f want. along d (in_final done found.next) (sym (append_assoc ts us (t ∷ []))) (stands_final (us ++ (t ∷ [])) h (goes_further expressions d state us t found e f want)))

  -- what is read stands
  stands_programs : (d : ℕ) (ts : List Token) (s : ProgramState State) → 1 ≤ d → after_tokens reader d reader.start ts ≡ Ok s → Stands d s ts
  stands_programs d ts s least e =
      go_stands reader (Stands d) d (step_keeps d least) ts reader.start s []
      (stands_between (record { are = no_declarations; shallow = omega arith })) e

  -- what leads to a type, and what begins one, begin the rest of a program
  type_front : {d : ℕ} {owner : TypeOf} {ts us : List Token} → Opens d owner ts → FrontType d us → FrontRest d (ts ++ us)
  type_front {d = d} {us = us} (opens_input begun place colon {ts = ts} h) f =
      subst (FrontRest d) (simp append_assoc) (rest_in_declaration h.are h.shallow (input_type begun place colon f))
  type_front {d = d} {us = us} (opens_parameter begun function opened place colon {ts = ts} {us = vs} h g) f =
      subst (FrontRest d) (simp append_assoc)
      (rest_in_declaration h.are h.shallow (function_parameters begun function opened (given_front g (name_token place ∷ token Colon colon ∷ us) (parameter_type place colon f))))
  type_front {d = d} {us = us} (opens_result begun function opened closed colon {ts = ts} {us = vs} h w room) f =
      subst (FrontRest d) (simp append_assoc) (rest_in_declaration h.are h.shallow (function_result begun function opened closed colon w room f))

  body_front : {d : ℕ} {header : Header} {ts us : List Token} → OpensBody d header ts → Front 0 d us → FrontRest d (ts ++ us)
  body_front {d = d} {us = us} (opens_body begun function opened closed colon equals {ts = ts} {us = vs} {vs = ws} h wp roomy wr room) f =
      subst (FrontRest d) (simp append_assoc) (rest_in_declaration h.are h.shallow (function_body begun function opened closed colon equals wp roomy wr room f))

  -- declarations, and what begins one more
  declaration_front : {d : ℕ} {done : List DeclarationTree} {ts us : List Token} → Declared d done ts → FrontDeclaration d us → FrontRest d (ts ++ us)
  declaration_front h f = rest_in_declaration h.are h.shallow f

  stands_front : {d : ℕ} {s : ProgramState State} {ts : List Token} → Stands (suc d) s ts → FrontRest (suc d) ts
  stands_front {d = d} (stands_between {ts = ts} h) =
      subst (FrontRest (suc d)) (append-nil ts) (rest_in_expression h.are h.shallow (nothing {here = 0} {deep = d}))
  stands_front (stands_input begun h) = declaration_front h (input_word begun)
  stands_front (stands_input_colon begun place h) = declaration_front h (input_name begun place)
  stands_front (stands_function begun h) = declaration_front h (function_word begun)
  stands_front (stands_open begun function h) = declaration_front h (function_name begun function)
  stands_front {d = d} (stands_parameter begun function opened {ts = ts} {us = us} h g) =
      subst (λ x. FrontRest (suc d) (ts ++ (token Function begun ∷ name_token function ∷ token LeftParen opened ∷ x))) (append-nil us)
      (declaration_front h (function_parameters begun function opened (given_front g [] no_parameter)))
  stands_front (stands_parameter_colon begun function opened place h g) =
      declaration_front h (function_parameters begun function opened (given_front g (name_token place ∷ []) (parameter_name place)))
  stands_front (stands_result begun function opened closed h w room) = declaration_front h (function_closed begun function opened closed w room)
  stands_front {d = d} (stands_type {s = state} us o e) = type_front o (types_are_read.stands (suc d) us state (omega arith) e)
  stands_front {d = d} (stands_body {s = state} us o e) = body_front o (right.is.stands (suc d) us state (omega arith) e)
  stands_front {d = d} (stands_final {s = state} us h e) = rest_in_expression h.are h.shallow (right.is.stands (suc d) us state (omega arith) e)

  -- tokens that are read begin the rest of a program within the depth
  pub rest_stands : (d : ℕ) (ts : List Token) (s : ProgramState State) → 1 ≤ d → after_tokens reader d reader.start ts ≡ Ok s → FrontRest d ts
  rest_stands Prim.Native.Nat.zero ts s least e = absurd (omega arith)
  rest_stands (suc d) ts s least e = stands_front (stands_programs (suc d) ts s least e)

  -- the rest of a program where the expression is whole
  expression_whole : {d : ℕ} {done : List DeclarationTree} {ts : List Token} (us : List Token) (s : State) (rest : Rest) → 1 ≤ d → Declared d done ts
      → after_tokens expressions d expressions.start us ≡ Ok s → with_expression expressions done (expressions.finished s) ≡ Some rest
      → WholeRest (ts ++ us) rest × (rest_depth rest ≤ d)
  expression_whole {d = d} {done = done} {ts = ts} us s rest least h e f = by_form (expressions.finished s) refl f
    where
      by_form : (found : Option Tree) → expressions.finished s ≡ found → with_expression expressions done found ≡ Some rest
          → WholeRest (ts ++ us) rest × (rest_depth rest ≤ d)
      by_form None g k = absurd (let never : ⊥ = cc in never)
      by_form (Some expression) g k =
          let w = right.is.whole d us s expression least e g in
          let deep : depth expression ≤ d = w.1 in
          let shallow : declarations_depth done ≤ d = h.shallow in
          let made : Rest = record { declarations = done; expression = expression } in
          let is : made ≡ rest = cc in (
            subst (WholeRest (ts ++ us)) is (rest_rule h.are w.0),
            subst (λ x. rest_depth x ≤ d) is (let fits : rest_depth made ≤ d = omega arith in fits),
          )

  stands_whole : {d : ℕ} {s : ProgramState State} {ts : List Token} → 1 ≤ d → Stands d s ts → (rest : Rest) → reader.finished s ≡ Some rest
      → WholeRest ts rest × (rest_depth rest ≤ d)
  stands_whole {d = d} least (stands_between {ts = ts} h) rest f =
      subst (λ x. WholeRest x rest × (rest_depth rest ≤ d)) (append-nil ts) (expression_whole [] expressions.start rest least h refl f)
  stands_whole least (stands_final {s = state} us h e) rest f = expression_whole us state rest least h e f
  stands_whole least (stands_input begun h) rest f = absurd (let never : ⊥ = cc in never)
  stands_whole least (stands_input_colon begun place h) rest f = absurd (let never : ⊥ = cc in never)
  stands_whole least (stands_function begun h) rest f = absurd (let never : ⊥ = cc in never)
  stands_whole least (stands_open begun function h) rest f = absurd (let never : ⊥ = cc in never)
  stands_whole least (stands_parameter begun function opened h g) rest f = absurd (let never : ⊥ = cc in never)
  stands_whole least (stands_parameter_colon begun function opened place h g) rest f = absurd (let never : ⊥ = cc in never)
  stands_whole least (stands_result begun function opened closed h w room) rest f = absurd (let never : ⊥ = cc in never)
  stands_whole least (stands_type us o e) rest f = absurd (let never : ⊥ = cc in never)
  stands_whole least (stands_body us o e) rest f = absurd (let never : ⊥ = cc in never)

  -- where the reader has the rest of a program, the tokens are that
  pub rest_whole : (d : ℕ) (ts : List Token) (s : ProgramState State) (rest : Rest) → 1 ≤ d → after_tokens reader d reader.start ts ≡ Ok s
      → reader.finished s ≡ Some rest → WholeRest ts rest × (rest_depth rest ≤ d)
  rest_whole d ts s rest least e f = stands_whole least (stands_programs d ts s least e) rest f
