-- A whole program is read after its dialect, where expressions are.
use Rattle.std.proofs.Common.{◌≡◌, ℕ, max, ◌≤◌, List, [], ◌∷◌, ◌++◌, Some, None, Ok, refl, ◌∙◌, ap, arith}
use Rattle.snesl_grammar.specs.declared.lexer.token.TokenKind.TheVariants.{Dialect, Input, Function, LeftParen, RightParen, Colon, Semicolon, Comma, Equals}
use Rattle.snesl_grammar.specs.declared.lexer.token.Token.{Token}
use Rattle.snesl_grammar.specs.declared.tree.span.Span.{Span}
use Rattle.snesl_grammar.specs.tree.Tree.{Tree, depth, TypeTree, type_depth, TypedName, DeclarationTree, declares_input, declares_function}
use Rattle.snesl_grammar.specs.Expressions.{token, name_token, Whole, Front}
use Rattle.snesl_syntax.specs.expressions.Readers.{at_any_depth, Reader, step, after_tokens}
use Rattle.snesl_syntax.proofs.OfExpressions.Reading.{bind_ok, within_ok, fits_step, goes_on, steps_on, ends_with}
use Rattle.snesl_grammar.specs.Types.{WholeType}
use Rattle.snesl_syntax.specs.Types.{TypeState, types}
use Rattle.snesl_grammar.specs.Programs.{typed, parameters_depth, declaration_depth, declarations_depth, WholeParameters, one_parameter}
use Rattle.snesl_grammar.specs.Programs.{more_parameters, WholeDeclaration, input_rule, function_rule, WholeDeclarations, no_declarations}
use Rattle.snesl_grammar.specs.Programs.{more_declarations}
use Rattle.snesl_syntax.specs.Programs.{Rest, TypeOf, of_input, of_parameter, of_result, Header, ProgramState, between, awaits_input}
use Rattle.snesl_syntax.specs.Programs.{awaits_input_colon, awaits_function, awaits_open, awaits_parameter, awaits_parameter_colon, awaits_result}
use Rattle.snesl_syntax.specs.Programs.{in_type, in_body, in_final, lifted, or_else, when_whole, body_end, type_end, fixed_move, with_expression}
use Rattle.snesl_syntax.specs.Programs.{finished_program, programs}
use Rattle.snesl_syntax.specs.expressions.Readers.{IsReaderOf}
use Rattle.snesl_syntax.proofs.Moves.{free_step, go_carried}
use Rattle.snesl_syntax.proofs.TypesRead.{types_are_read}
use Rattle.snesl_syntax.proofs.Rests.{rest_depth, WholeRest, rest_rule}

pub depth-parameters : (given : List TypedName) (last : TypedName) → parameters_depth (given ++ last ∷ []) ≡ max (parameters_depth given) (type_depth last.written)
depth-parameters [] last = omega arith
depth-parameters (x ∷ given) last =
    let h : parameters_depth (given ++ last ∷ []) ≡ max (parameters_depth given) (type_depth last.written) = depth-parameters given last in omega arith

pub depth-declarations : (given : List DeclarationTree) (last : DeclarationTree)
    → declarations_depth (given ++ last ∷ []) ≡ max (declarations_depth given) (declaration_depth last)
depth-declarations [] last = omega arith
depth-declarations (x ∷ given) last =
    let h : declarations_depth (given ++ last ∷ []) ≡ max (declarations_depth given) (declaration_depth last) = depth-declarations given last in omega arith

-- the reader of expressions reads them, and takes no first token of a dialect or a declaration for one
pub record ReadsExpressions {State : Type 0} (expressions : Reader State Tree) : Type 0 where
  pub is : IsReaderOf expressions (Whole 0) (Front 0) depth (λ kind. kind ≡ Semicolon)
  pub no_dialect : (at : ℕ) → expressions.move expressions.start (token Dialect at) ≡ None
  pub no_input : (at : ℕ) → expressions.move expressions.start (token Input at) ≡ None
  pub no_function : (at : ℕ) → expressions.move expressions.start (token Function at) ≡ None

module _ {State : Type 0} (expressions : Reader State Tree) (right : ReadsExpressions expressions) where
  abbrev reader : Reader (ProgramState State) Rest
  reader = programs expressions

  -- the token after a whole type ends it
  type_end_step : (d : ℕ) (owner : TypeOf) (s : TypeState) (written : TypeTree) (t : Token) (next : ProgramState State)
      → types.finished s ≡ Some written → type_end expressions owner t.kind written ≡ at_any_depth next → step reader d (in_type owner s) t ≡ Ok next
  type_end_step d owner s written t next f e =
      free_step reader d (in_type owner s) next t
      (ap (λ m. or_else (lifted (in_type owner) m) (when_whole (types.finished s) (type_end expressions owner t.kind))) (types_are_read.ends s written t f tt)
      ∙ ap (λ m. when_whole m (type_end expressions owner t.kind)) f ∙ e)

  -- a semicolon ends a whole body
  body_end_step : (d : ℕ) (header : Header) (s : State) (body : Tree) (at : ℕ) → expressions.finished s ≡ Some body
      → step reader d (in_body header s) (token Semicolon at)
      ≡ Ok (between (header.done ++ declares_function header.function header.parameters header.result body ∷ []))
  body_end_step d header s body at f =
      free_step reader d (in_body header s) (between (header.done ++ declares_function header.function header.parameters header.result body ∷ []))
      (token Semicolon at)
      (ap (λ m. or_else (lifted (in_body header) m) (when_whole (expressions.finished s) (body_end header Semicolon))) (right.is.ends s body (token Semicolon at) f refl)
      ∙ ap (λ m. when_whole m (body_end header Semicolon)) f)

  -- a type is read inside a program as it is by itself
  type_goes : (d : ℕ) (owner : TypeOf) (ts : List Token) (s : TypeState) → after_tokens types d types.start ts ≡ Ok s
      → after_tokens reader d (in_type owner types.start) ts ≡ Ok (in_type owner s)
  type_goes d owner ts s e =
      go_carried types reader (in_type owner)
      (λ x t found f. ap (λ m. or_else (lifted (in_type owner) m) (when_whole (types.finished x) (type_end expressions owner t.kind))) f) d ts types.start s e

  -- and so is the body of a function
  body_goes : (d : ℕ) (header : Header) (ts : List Token) (s : State) → after_tokens expressions d expressions.start ts ≡ Ok s
      → after_tokens reader d (in_body header expressions.start) ts ≡ Ok (in_body header s)
  body_goes d header ts s e =
      go_carried expressions reader (in_body header)
      (λ x t found f. ap (λ m. or_else (lifted (in_body header) m) (when_whole (expressions.finished x) (body_end header t.kind))) f) d ts expressions.start s e

  -- a whole type is read, with the token that ends it
  reads_type : (d : ℕ) (owner : TypeOf) (ts rest : List Token) (written : TypeTree) (t : Token) (next : ProgramState State)
      → WholeType ts written → type_depth written ≤ d → type_end expressions owner t.kind written ≡ at_any_depth next
      → after_tokens reader d (in_type owner types.start) (ts ++ (t ∷ rest)) ≡ after_tokens reader d next rest
  reads_type d owner ts rest written t next w h e =
      let r = types_are_read.reads d ts written w h in
      goes_on reader d (in_type owner types.start) (in_type owner r.0) ts (t ∷ rest) (type_goes d owner ts r.0 r.1)
      ∙ steps_on reader d (in_type owner r.0) next t rest (type_end_step d owner r.0 written t next r.2 e)

  -- what is left after parameters: the last one's type is open, and whole
  record ReadsParameters (d : ℕ) (done : List DeclarationTree) (function : Span) (ts : List Token) (parameters : List TypedName) : Type 0 where
    pub given : List TypedName
    pub place : Span
    pub written : TypeTree
    pub state : TypeState
    pub runs : after_tokens reader d (awaits_parameter done function []) ts ≡ Ok (in_type (of_parameter done function given place) state)
    pub finished : types.finished state ≡ Some written
    pub is : given ++ typed place written ∷ [] ≡ parameters

  reads_parameter : (d : ℕ) (done : List DeclarationTree) (function : Span) (given : List TypedName) (place : Span) (colon : ℕ) (ts : List Token) (s : TypeState)
      → after_tokens types d types.start ts ≡ Ok s
      → after_tokens reader d (awaits_parameter done function given) (name_token place ∷ token Colon colon ∷ ts)
      ≡ Ok (in_type (of_parameter done function given place) s)
  reads_parameter d done function given place colon ts s e =
      steps_on reader d (awaits_parameter done function given) (awaits_parameter_colon done function given place) (name_token place) (token Colon colon ∷ ts)
      (free_step reader d (awaits_parameter done function given) (awaits_parameter_colon done function given place) (name_token place) refl)
      ∙ (steps_on reader d (awaits_parameter_colon done function given place) (in_type (of_parameter done function given place) types.start) (token Colon colon) ts
      (free_step reader d (awaits_parameter_colon done function given place) (in_type (of_parameter done function given place) types.start) (token Colon colon) refl)
      ∙ type_goes d (of_parameter done function given place) ts s e)

  reads_parameters : {ts : List Token} {parameters : List TypedName} → WholeParameters ts parameters
      → (d : ℕ) (done : List DeclarationTree) (function : Span) → parameters_depth parameters ≤ d → ReadsParameters d done function ts parameters
  reads_parameters (one_parameter place colon {ts = ts} {written = written} w) d done function h =
      let r = types_are_read.reads d ts written w (omega arith) in
      record {
        given = [];
        place = place;
        written = written;
        state = r.0;
        runs = reads_parameter d done function [] place colon ts r.0 r.1;
        finished = r.2;
        is = refl;
      }
  reads_parameters (more_parameters comma place colon {ts = ts} {us = us} {given = given} {written = written} ws w) d done function h =
      let deep : parameters_depth (given ++ typed place written ∷ []) ≡ max (parameters_depth given) (type_depth written) = depth-parameters given (typed place written) in
      let ra = reads_parameters ws d done function (omega arith) in
      let r = types_are_read.reads d us written w (omega arith) in
      record {
        given = given;
        place = place;
        written = written;
        state = r.0;
        runs = goes_on reader d (awaits_parameter done function []) (in_type (of_parameter done function ra.given ra.place) ra.state) ts
            (token Comma comma ∷ name_token place ∷ token Colon colon ∷ us) ra.runs
            ∙ (steps_on reader d (in_type (of_parameter done function ra.given ra.place) ra.state) (awaits_parameter done function given) (token Comma comma)
            (name_token place ∷ token Colon colon ∷ us)
            (type_end_step d (of_parameter done function ra.given ra.place) ra.state ra.written (token Comma comma) (awaits_parameter done function given) ra.finished
            (ap (λ x. at_any_depth (awaits_parameter done function x)) ra.is))
            ∙ reads_parameter d done function given place colon us r.0 r.1);
        finished = r.2;
        is = refl;
      }

  -- a whole declaration is read
  reads_declaration : {ts : List Token} {declaration : DeclarationTree} → WholeDeclaration ts declaration → (d : ℕ) (done : List DeclarationTree)
      → declaration_depth declaration ≤ d → after_tokens reader d (between done) ts ≡ Ok (between (done ++ declaration ∷ []))
  reads_declaration (input_rule at place colon semicolon {ts = ts} {written = written} w) d done h =
      let last : List Token = ts ++ (token Semicolon semicolon ∷ []) in
      steps_on reader d (between done) (awaits_input done) (token Input at) (name_token place ∷ token Colon colon ∷ last)
      (free_step reader d (between done) (awaits_input done) (token Input at)
      (ap (λ m. or_else (lifted (in_final done) m) (fixed_move expressions (between done) Input at)) (right.no_input at)))
      ∙ (steps_on reader d (awaits_input done) (awaits_input_colon done place) (name_token place) (token Colon colon ∷ last)
      (free_step reader d (awaits_input done) (awaits_input_colon done place) (name_token place) refl)
      ∙ (steps_on reader d (awaits_input_colon done place) (in_type (of_input done place) types.start) (token Colon colon) last
      (free_step reader d (awaits_input_colon done place) (in_type (of_input done place) types.start) (token Colon colon) refl)
      ∙ reads_type d (of_input done place) ts [] written (token Semicolon semicolon) (between (done ++ declares_input (typed place written) ∷ [])) w h refl))
  reads_declaration (function_rule at place opened closed colon equals semicolon {ts = ts} {us = us} {vs = vs} {parameters = parameters} {result = result} {body = body} ws w we) d done h =
      let header : Header = record { done = done; function = place; parameters = parameters; result = result } in
      let body_tokens : List Token = vs ++ (token Semicolon semicolon ∷ []) in
      let result_tokens : List Token = us ++ (token Equals equals ∷ body_tokens) in
      let rp = reads_parameters ws d done place (omega arith) in
      let rb = right.is.reads d vs body we (omega arith) in
      let owner : TypeOf = of_parameter done place rp.given rp.place in
      steps_on reader d (between done) (awaits_function done) (token Function at)
      (name_token place ∷ token LeftParen opened ∷ (ts ++ (token RightParen closed ∷ token Colon colon ∷ result_tokens)))
      (free_step reader d (between done) (awaits_function done) (token Function at)
      (ap (λ m. or_else (lifted (in_final done) m) (fixed_move expressions (between done) Function at)) (right.no_function at)))
      ∙ (steps_on reader d (awaits_function done) (awaits_open done place) (name_token place)
      (token LeftParen opened ∷ (ts ++ (token RightParen closed ∷ token Colon colon ∷ result_tokens)))
      (free_step reader d (awaits_function done) (awaits_open done place) (name_token place) refl)
      ∙ (steps_on reader d (awaits_open done place) (awaits_parameter done place []) (token LeftParen opened)
      (ts ++ (token RightParen closed ∷ token Colon colon ∷ result_tokens))
      (free_step reader d (awaits_open done place) (awaits_parameter done place []) (token LeftParen opened) refl)
      ∙ (goes_on reader d (awaits_parameter done place []) (in_type owner rp.state) ts (token RightParen closed ∷ token Colon colon ∷ result_tokens) rp.runs
      ∙ (steps_on reader d (in_type owner rp.state) (awaits_result done place parameters) (token RightParen closed) (token Colon colon ∷ result_tokens)
      (type_end_step d owner rp.state rp.written (token RightParen closed) (awaits_result done place parameters) rp.finished
      (ap (λ x. at_any_depth (awaits_result done place x)) rp.is))
      ∙ (steps_on reader d (awaits_result done place parameters) (in_type (of_result done place parameters) types.start) (token Colon colon) result_tokens
      (free_step reader d (awaits_result done place parameters) (in_type (of_result done place parameters) types.start) (token Colon colon) refl)
      ∙ (reads_type d (of_result done place parameters) us body_tokens result (token Equals equals) (in_body header expressions.start) w (omega arith) refl
      ∙ ends_with reader d (in_body header expressions.start) (in_body header rb.0) (between (done ++ declares_function place parameters result body ∷ [])) vs
      (token Semicolon semicolon) (body_goes d header vs rb.0 rb.1) (body_end_step d header rb.0 body semicolon rb.2)))))))

  reads_declarations : {ts : List Token} {declarations : List DeclarationTree} → WholeDeclarations ts declarations → (d : ℕ)
      → declarations_depth declarations ≤ d → after_tokens reader d (between []) ts ≡ Ok (between declarations)
  reads_declarations no_declarations d h = refl
  reads_declarations (more_declarations {ts = ts} {us = us} {given = given} {last = last} ws w) d h =
      let deep : declarations_depth (given ++ last ∷ []) ≡ max (declarations_depth given) (declaration_depth last) = depth-declarations given last in
      goes_on reader d (between []) (between given) ts us (reads_declarations ws d (omega arith))
      ∙ reads_declaration w d given (omega arith)

  -- the expression is read after the declarations as it is by itself
  reads_final : (d : ℕ) (done : List DeclarationTree) (us : List Token) (r : State) → after_tokens expressions d expressions.start us ≡ Ok r
      → (s : ProgramState State) × (after_tokens reader d (between done) us ≡ Ok s) × (finished_program expressions s ≡ with_expression expressions done (expressions.finished r))
  reads_final d done [] r e =
      let same : expressions.start ≡ r = cc in
      (between done, refl, ap (λ x. with_expression expressions done (expressions.finished x)) same)
  reads_final d done (u ∷ us) r e =
      let b = bind_ok (step expressions d expressions.start u) (λ x. after_tokens expressions d x us) r e in
      let w = within_ok d (expressions.move expressions.start u) b.0 b.1 in (
        in_final done r,
        steps_on reader d (between done) (in_final done b.0) u us
            (fits_step reader d (between done) (in_final done w.0.next) u w.0.want
            (ap (λ m. or_else (lifted (in_final done) m) (fixed_move expressions (between done) u.kind u.at)) w.1) w.2
            ∙ ap (λ x. Ok (in_final done x)) w.3)
            ∙ go_carried expressions reader (in_final done) (λ x t found f. ap (lifted (in_final done)) f) d us b.0 r b.2,
        refl,
      )

  -- a whole program is read after its dialect
  pub rest_reads : (d : ℕ) (ts : List Token) (rest : Rest) → WholeRest ts rest → rest_depth rest ≤ d
      → (s : ProgramState State) × (after_tokens reader d reader.start ts ≡ Ok s) × (reader.finished s ≡ Some rest)
  rest_reads d ts rest (rest_rule {ts = front} {us = back} {declarations = declarations} {expression = expression} ws w) h =
      let r = right.is.reads d back expression w (omega arith) in
      let f = reads_final d declarations back r.0 r.1 in (
        f.0,
        goes_on reader d (between []) (between declarations) front back (reads_declarations ws d (omega arith)) ∙ f.1,
        f.2 ∙ ap (with_expression expressions declarations) r.2,
      )
