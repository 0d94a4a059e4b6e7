-- What the grammar lists as the beginning of a program after its dialect can be completed to one.
use Rattle.std.proofs.Common.{◌≡◌, ℕ, max, ◌≤◌, List, [], ◌∷◌, ◌++◌, refl, sym, ◌∙◌, ap, subst, arith, append_assoc}
use Rattle.snesl_grammar.specs.declared.lexer.token.TokenKind.TheVariants.{Int, Function, LeftParen, RightParen, Colon, Semicolon, Comma, Equals}
use Rattle.snesl_grammar.specs.declared.lexer.token.Token.{Token}
use Rattle.snesl_grammar.specs.declared.tree.span.Span.{Span}
use Rattle.snesl_grammar.specs.tree.Tree.{Tree, name, depth, TypeTree, int_type, type_depth, TypedName, DeclarationTree, declares_input, declares_function}
use Rattle.snesl_grammar.specs.Expressions.{token, name_token, name_rule}
use Rattle.snesl_syntax.specs.expressions.Readers.{Reader}
use Rattle.snesl_grammar.specs.Types.{WholeType, int_rule}
use Rattle.snesl_grammar.specs.Programs.{typed, parameters_depth, declaration_depth, declarations_depth, WholeParameters, one_parameter}
use Rattle.snesl_grammar.specs.Programs.{more_parameters, WholeDeclaration, input_rule, function_rule, more_declarations, FrontParameter}
use Rattle.snesl_grammar.specs.Programs.{no_parameter, parameter_name, parameter_type, FrontParameters, first_parameter, next_parameter}
use Rattle.snesl_grammar.specs.Programs.{FrontDeclaration, input_word, input_name, input_type, function_word, function_name, function_parameters}
use Rattle.snesl_grammar.specs.Programs.{function_closed, function_result, function_body}
use Rattle.snesl_syntax.specs.Programs.{Rest, programs}
use Rattle.snesl_syntax.proofs.TypesRead.{type_depth_pos, types_are_read}
use Rattle.snesl_syntax.proofs.Rests.{rest_depth, WholeRest, rest_rule, FrontRest, rest_in_declaration, rest_in_expression, IsReaderOfRests}
use Rattle.snesl_syntax.proofs.Runs.{depth-parameters, depth-declarations, ReadsExpressions, rest_reads}
use Rattle.snesl_syntax.proofs.Stands.{rest_stands, rest_whole}

-- a name, to complete forms with
pub spot : Span
spot = record { at = 0; len = 1 }

abbrev pub leaf : Token
leaf = name_token spot

-- the tokens, and others with which they are a parameter
record CompletedParameter (d : ℕ) (ts : List Token) : Type 0 where
  pub rest : List Token
  pub place : Span
  pub colon : ℕ
  pub behind : List Token
  pub written : TypeTree
  pub same : ts ++ rest ≡ name_token place ∷ token Colon colon ∷ behind
  pub whole : WholeType behind written
  pub shallow : type_depth written ≤ d

-- the same of parameters
record CompletedParameters (d : ℕ) (ts : List Token) : Type 0 where
  pub rest : List Token
  pub parameters : List TypedName
  pub whole : WholeParameters (ts ++ rest) parameters
  pub shallow : parameters_depth parameters ≤ d

-- the same of a declaration
record CompletedDeclaration (d : ℕ) (ts : List Token) : Type 0 where
  pub rest : List Token
  pub declaration : DeclarationTree
  pub whole : WholeDeclaration (ts ++ rest) declaration
  pub shallow : declaration_depth declaration ≤ d

declared_as : {ts us : List Token} (declaration : DeclarationTree) → ts ≡ us → WholeDeclaration ts declaration → WholeDeclaration us declaration
declared_as declaration same w = subst (λ x. WholeDeclaration x declaration) same w

completed_parameter : {d : ℕ} {ts : List Token} → FrontParameter d ts → CompletedParameter d ts
completed_parameter no_parameter =
    record {
      rest = leaf ∷ token Colon 0 ∷ token Int 0 ∷ [];
      place = spot;
      colon = 0;
      behind = token Int 0 ∷ [];
      written = int_type 0;
      same = refl;
      whole = int_rule;
      shallow = omega arith;
    }
completed_parameter (parameter_name place) =
    record {
      rest = token Colon 0 ∷ token Int 0 ∷ [];
      place = place;
      colon = 0;
      behind = token Int 0 ∷ [];
      written = int_type 0;
      same = refl;
      whole = int_rule;
      shallow = omega arith;
    }
completed_parameter {d = d} (parameter_type place colon {ts = ts} f) =
    let c = types_are_read.completes d ts f in
    record { rest = c.0; place = place; colon = colon; behind = ts ++ c.0; written = c.1; same = refl; whole = c.2; shallow = c.3 }

completed_parameters : {d : ℕ} {ts : List Token} → FrontParameters d ts → CompletedParameters d ts
completed_parameters (first_parameter f) =
    let c = completed_parameter f in
    let h : type_depth c.written ≤ _ = c.shallow in
    record {
      rest = c.rest;
      parameters = typed c.place c.written ∷ [];
      whole = subst (λ x. WholeParameters x (typed c.place c.written ∷ [])) (sym c.same) (one_parameter c.place c.colon c.whole);
      shallow = omega arith;
    }
completed_parameters (next_parameter comma {ts = ts} {us = us} {given = given} ws k f) =
    let c = completed_parameter f in
    let h : type_depth c.written ≤ _ = c.shallow in
    let last : TypedName = typed c.place c.written in
    let deep : parameters_depth (given ++ last ∷ []) ≡ max (parameters_depth given) (type_depth c.written) = depth-parameters given last in
    record {
      rest = c.rest;
      parameters = given ++ last ∷ [];
      whole = subst (λ x. WholeParameters x (given ++ last ∷ []))
          (sym (append_assoc ts (token Comma comma ∷ us) c.rest ∙ ap (λ x. ts ++ (token Comma comma ∷ x)) c.same))
          (more_parameters comma c.place c.colon ws c.whole);
      shallow = omega arith;
    }

parameters_pos : {ts : List Token} {parameters : List TypedName} → WholeParameters ts parameters → 1 ≤ parameters_depth parameters
parameters_pos (one_parameter place colon {written = written} w) = let h : 1 ≤ type_depth written = type_depth_pos written in omega arith
parameters_pos (more_parameters comma place colon {given = given} {written = written} ws w) =
    let h : 1 ≤ type_depth written = type_depth_pos written in
    let deep : parameters_depth (given ++ typed place written ∷ []) ≡ max (parameters_depth given) (type_depth written) = depth-parameters given (typed place written) in
    omega arith

-- a parameter, to complete functions with
abbrev short : TypedName
short = typed spot (int_type 0)

-- the rest of a function after its parameters
abbrev short_rest : List Token
short_rest = token RightParen 0 ∷ token Colon 0 ∷ token Int 0 ∷ token Equals 0 ∷ leaf ∷ token Semicolon 0 ∷ []

short_function : (at : ℕ) (place : Span) (opened : ℕ) (ts : List Token) (parameters : List TypedName) → WholeParameters ts parameters
    → WholeDeclaration (token Function at ∷ name_token place ∷ token LeftParen opened ∷ (ts ++ short_rest))
    (declares_function place parameters (int_type 0) (name spot))
short_function at place opened ts parameters ws = function_rule at place opened 0 0 0 0 ws (int_rule {at = 0}) (name_rule spot)

module _ {State : Type 0} (expressions : Reader State Tree) (right : ReadsExpressions expressions) where
  completed_declaration : {d : ℕ} {ts : List Token} → FrontDeclaration d ts → CompletedDeclaration d ts
  completed_declaration (input_word at) =
      record {
        rest = leaf ∷ token Colon 0 ∷ token Int 0 ∷ token Semicolon 0 ∷ [];
        declaration = declares_input short;
        whole = input_rule at spot 0 0 (int_rule {at = 0});
        shallow = omega arith;
      }
  completed_declaration (input_name at place) =
      record {
        rest = token Colon 0 ∷ token Int 0 ∷ token Semicolon 0 ∷ [];
        declaration = declares_input (typed place (int_type 0));
        whole = input_rule at place 0 0 (int_rule {at = 0});
        shallow = omega arith;
      }
  completed_declaration {d = d} (input_type at place colon {ts = ts} f) =
      let c = types_are_read.completes d ts f in
      let made : DeclarationTree = declares_input (typed place c.1) in
      record {
        rest = c.0 ++ (token Semicolon 0 ∷ []);
        declaration = made;
        whole = declared_as made (simp append_assoc) (input_rule at place colon 0 c.2);
        shallow = c.3;
      }
  completed_declaration (function_word at) =
      record {
        rest = leaf ∷ token LeftParen 0 ∷ leaf ∷ token Colon 0 ∷ token Int 0 ∷ short_rest;
        declaration = declares_function spot (short ∷ []) (int_type 0) (name spot);
        whole = short_function at spot 0 (leaf ∷ token Colon 0 ∷ token Int 0 ∷ []) (short ∷ []) (one_parameter spot 0 (int_rule {at = 0}));
        shallow = omega arith;
      }
  completed_declaration (function_name at place) =
      record {
        rest = token LeftParen 0 ∷ leaf ∷ token Colon 0 ∷ token Int 0 ∷ short_rest;
        declaration = declares_function place (short ∷ []) (int_type 0) (name spot);
        whole = short_function at place 0 (leaf ∷ token Colon 0 ∷ token Int 0 ∷ []) (short ∷ []) (one_parameter spot 0 (int_rule {at = 0}));
        shallow = omega arith;
      }
  completed_declaration (function_parameters at place opened {ts = ts} f) =
      let c = completed_parameters f in
      let h : parameters_depth c.parameters ≤ _ = c.shallow in
      let least : 1 ≤ parameters_depth c.parameters = parameters_pos c.whole in
      let made : DeclarationTree = declares_function place c.parameters (int_type 0) (name spot) in
      record {
        rest = c.rest ++ short_rest;
        declaration = made;
        whole = declared_as made (simp append_assoc) (short_function at place opened (ts ++ c.rest) c.parameters c.whole);
        shallow = omega arith;
      }
  completed_declaration (function_closed at place opened closed {ts = ts} {parameters = parameters} ws k) =
      let least : 1 ≤ parameters_depth parameters = parameters_pos ws in
      let made : DeclarationTree = declares_function place parameters (int_type 0) (name spot) in
      record {
        rest = token Colon 0 ∷ token Int 0 ∷ token Equals 0 ∷ leaf ∷ token Semicolon 0 ∷ [];
        declaration = made;
        whole = declared_as made (simp append_assoc) (function_rule at place opened closed 0 0 0 ws (int_rule {at = 0}) (name_rule spot));
        shallow = omega arith;
      }
  completed_declaration {d = d} (function_result at place opened closed colon {ts = ts} {us = us} {parameters = parameters} ws k f) =
      let c = types_are_read.completes d us f in
      let h : type_depth c.1 ≤ d = c.3 in
      let least : 1 ≤ type_depth c.1 = type_depth_pos c.1 in
      let made : DeclarationTree = declares_function place parameters c.1 (name spot) in
      record {
        rest = c.0 ++ (token Equals 0 ∷ leaf ∷ token Semicolon 0 ∷ []);
        declaration = made;
        whole = declared_as made (simp append_assoc) (function_rule at place opened closed colon 0 0 ws c.2 (name_rule spot));
        shallow = omega arith;
      }
  completed_declaration {d = d} (function_body at place opened closed colon equals {ts = ts} {us = us} {vs = vs} {parameters = parameters} {result = result} ws k w m f) =
      let c = right.is.completes d vs f in
      let h : depth c.1 ≤ d = c.3 in
      let made : DeclarationTree = declares_function place parameters result c.1 in
      record {
        rest = c.0 ++ (token Semicolon 0 ∷ []);
        declaration = made;
        whole = declared_as made (simp append_assoc) (function_rule at place opened closed colon equals 0 ws w c.2);
        shallow = omega arith;
      }

  declaration_pos : (declaration : DeclarationTree) → 1 ≤ declaration_depth declaration
  declaration_pos (declares_input declared) = type_depth_pos declared.written
  declaration_pos (declares_function place parameters result body) = let h : 1 ≤ type_depth result = type_depth_pos result in omega arith

  rest_completes : (d : ℕ) (ts : List Token) → FrontRest d ts
      → (rest : List Token) × (left : Rest) × WholeRest (ts ++ rest) left × (rest_depth left ≤ d)
  rest_completes d all (rest_in_declaration {ts = ts} {us = us} {done = done} ws k f) =
      let c = completed_declaration f in
      let h : declaration_depth c.declaration ≤ d = c.shallow in
      let least : 1 ≤ declaration_depth c.declaration = declaration_pos c.declaration in
      let deep : declarations_depth (done ++ c.declaration ∷ []) ≡ max (declarations_depth done) (declaration_depth c.declaration) = depth-declarations done c.declaration in
      let made : Rest = record { declarations = done ++ c.declaration ∷ []; expression = name spot } in (
        c.rest ++ (leaf ∷ []),
        made,
        subst (λ x. WholeRest x made) (simp append_assoc) (rest_rule (more_declarations ws c.whole) (name_rule spot)),
        omega arith,
      )
  rest_completes d all (rest_in_expression {ts = ts} {us = us} {done = done} ws k f) =
      let c = right.is.completes d us f in
      let h : depth c.1 ≤ d = c.3 in
      let made : Rest = record { declarations = done; expression = c.1 } in
      (c.0, made, subst (λ x. WholeRest x made) (sym (append_assoc ts us c.0)) (rest_rule ws c.2), omega arith)

  -- The reader of programs after their dialect reads what the grammar says, where that of expressions does.
  pub rests_are_read : IsReaderOfRests (programs expressions)
  rests_are_read = record {
    reads = λ d ts rest w h. rest_reads expressions right d ts rest w h;
    stands = λ d ts s least e. rest_stands expressions right d ts s least e;
    whole = λ d ts s rest least e f. rest_whole expressions right d ts s rest least e f;
    completes = λ d ts f. rest_completes d ts f;
    ends = λ s rest t f follows. absurd follows;
  }
