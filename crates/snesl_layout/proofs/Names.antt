-- Programs whose offsets are moved to the same names are the same programs.
use Rattle.std.proofs.Common.{ℕ, List, [], ◌∷◌, ◌++◌, map, refl, subst, sym}
use Rattle.snesl_grammar.specs.declared.lexer.token.TokenKind.{TokenKind}
use Rattle.snesl_grammar.specs.declared.lexer.token.TokenKind.TheVariants.{Name}
use Rattle.snesl_grammar.specs.declared.lexer.token.Token.{Token}
use Rattle.snesl_grammar.specs.declared.tree.span.Span.{Span}
use Rattle.snesl_grammar.specs.tree.Tree.{Tree, Trees, Binders, TypeTree, int_type, bool_type, pair_type, vector_type}
use Rattle.snesl_grammar.specs.tree.Tree.{sequence_type, none, both, none_bound, binder, TypedName, DeclarationTree, ProgramTree}
use Rattle.snesl_grammar.specs.Expressions.{token, added, bound_also, Whole, integer_rule, truth_rule, name_rule, binary_rule, prefix_rule, call_rule}
use Rattle.snesl_grammar.specs.Expressions.{apply_rule, group_rule, pair_rule, let_rule, if_rule, literal_rule, filter_rule, each_rule}
use Rattle.snesl_grammar.specs.Expressions.{each_where_rule, WholeArguments, one_rule, more_rule, WholeBinders, one_binder, more_binders}
use Rattle.snesl_grammar.specs.Programs.{WholeParameters, one_parameter, more_parameters, WholeDeclaration, input_rule, function_rule}
use Rattle.snesl_grammar.specs.Programs.{WholeDeclarations, no_declarations, more_declarations, WholeProgram, program_rule}
use Rattle.snesl_layout.specs.Same.{IsSameName, IsSame, same_integer, same_truth, same_name, same_binary, same_prefix, same_call, same_apply}
use Rattle.snesl_layout.specs.Same.{same_group, same_pair, same_binding, same_choice, same_literal, same_filter, same_each, AreSame, same_none}
use Rattle.snesl_layout.specs.Same.{same_both, HaveSameBinders, same_none_bound, same_binder, same_always, same_where, IsSameType, same_int}
use Rattle.snesl_layout.specs.Same.{same_bool, same_pair_type, same_vector, same_sequence, IsSameTyped, HaveSameParameters, same_parameter}
use Rattle.snesl_layout.specs.Same.{IsSameDeclaration, same_input, same_function, HaveSameDeclarations, same_declaration, IsSameProgram}
use Rattle.snesl_layout.specs.Same.{no_parameters as same_parameters, no_declarations as same_declarations}
use Rattle.std.proofs.lemmas.List.{map-append}
use Rattle.snesl_layout.proofs.Moved.{place_moved, moved, all_moved, binders_moved, added_moved, bound_moved, type_moved, typed_moved, declaration_moved, program_moved}

-- where the token is a name, the texts have it at both offsets
abbrev pub IsNameKept : (one other : List ℕ) → TokenKind → (at its_at : ℕ) → Type 0
IsNameKept one other (Name len) at its_at = IsSameName one other (record { at = at; len = len }) (record { at = its_at; len = len })
IsNameKept one other _ at its_at = Unit {0}

module _ (one other : List ℕ) (move : ℕ → ℕ) where
  -- each name has the same bytes where it is moved to
  abbrev pub AreNamesKept : List Token → Type 0
  AreNamesKept [] = Unit {0}
  AreNamesKept (token ∷ tokens) = IsNameKept one other token.kind token.at (move token.at) × AreNamesKept tokens

  front : (ts us : List Token) → AreNamesKept (ts ++ us) → AreNamesKept ts
  front [] us kept = tt
  front (t ∷ ts) us kept = (kept.0, front ts us kept.1)

  back : (ts us : List Token) → AreNamesKept (ts ++ us) → AreNamesKept us
  back [] us kept = kept
  back (t ∷ ts) us kept = back ts us kept.1

  also_same : (given its_given : Trees) (last its_last : Tree) → AreSame one other given its_given → IsSame one other last its_last
      → AreSame one other (added given last) (added its_given its_last)
  also_same none its_given last its_last same_none more = same_both more same_none
  also_same (both first others) its_given last its_last (same_both {its_others = its_others} h rest) more =
      same_both h (also_same others its_others last its_last rest more)

  also_bound : (given its_given : Binders) (place its_place : Span) (source its_source : Tree)
      → HaveSameBinders one other given its_given → IsSameName one other place its_place → IsSame one other source its_source
      → HaveSameBinders one other (bound_also given place source) (bound_also its_given its_place its_source)
  also_bound none_bound its_given place its_place source its_source same_none_bound named more = same_binder named more same_none_bound
  also_bound (binder first first_source others) its_given place its_place source its_source (same_binder {its_others = its_others} n h rest) named more =
      same_binder n h (also_bound others its_others place its_place source its_source rest named more)

  -- an expression, and where its offsets are moved, are the same
  mutual
    whole_same : {here : ℕ} {ts : List Token} {tree : Tree} → Whole here ts tree → AreNamesKept ts → IsSame one other tree (moved move tree)
    whole_same integer_rule kept = same_integer
    whole_same truth_rule kept = same_truth
    whole_same (name_rule place) kept = same_name kept.0
    whole_same (binary_rule {ts = ts} within left right) kept =
        same_binary (whole_same left (front ts _ kept)) (whole_same right (back ts _ kept).1)
    whole_same (prefix_rule within operand) kept = same_prefix (whole_same operand kept.1)
    whole_same (call_rule closed {ts = ts} arguments) kept = same_call (arguments_same arguments (front ts _ kept.1.1))
    whole_same (apply_rule function closed {ts = ts} arguments) kept = same_apply kept.0 (arguments_same arguments (front ts _ kept.1.1))
    whole_same (group_rule closed {ts = ts} inner) kept = same_group (whole_same inner (front ts _ kept.1))
    whole_same (pair_rule comma closed {ts = ts} {us = us} first second) kept =
        same_pair (whole_same first (front ts _ kept.1)) (whole_same second (front us _ (back ts _ kept.1).1))
    whole_same (let_rule place within {ts = ts} value body) kept =
        same_binding kept.1.0 (whole_same value (front ts _ kept.1.1.1)) (whole_same body (back ts _ kept.1.1.1).1)
    whole_same (if_rule next last {ts = ts} {us = us} condition positive negative) kept =
        same_choice (whole_same condition (front ts _ kept.1)) (whole_same positive (front us _ (back ts _ kept.1).1))
        (whole_same negative (back us _ (back ts _ kept.1).1).1)
    whole_same (literal_rule closed {ts = ts} items) kept = same_literal (arguments_same items (front ts _ kept.1))
    whole_same (filter_rule bar closed {ts = ts} {us = us} item condition) kept =
        same_filter (whole_same item (front ts _ kept.1)) (whole_same condition (front us _ (back ts _ kept.1).1))
    whole_same (each_rule colon closed {ts = ts} {us = us} body binders) kept =
        same_each (whole_same body (front ts _ kept.1)) (binders_same binders (front us _ (back ts _ kept.1).1)) same_always
    whole_same (each_where_rule colon bar closed {ts = ts} {us = us} {vs = vs} body binders condition) kept =
        same_each (whole_same body (front ts _ kept.1)) (binders_same binders (front us _ (back ts _ kept.1).1))
        (same_where (whole_same condition (front vs _ (back us _ (back ts _ kept.1).1).1)))

    arguments_same : {ts : List Token} {arguments : Trees} → WholeArguments ts arguments → AreNamesKept ts → AreSame one other arguments (all_moved move arguments)
    arguments_same (one_rule only) kept = same_both (whole_same only kept) same_none
    arguments_same (more_rule comma {ts = ts} {arguments = arguments} {last = last} given more) kept =
        subst (AreSame one other (added arguments last)) (sym (added_moved move arguments last))
        (also_same arguments (all_moved move arguments) last (moved move last) (arguments_same given (front ts _ kept)) (whole_same more (back ts _ kept).1))

    binders_same : {ts : List Token} {binders : Binders} → WholeBinders ts binders → AreNamesKept ts → HaveSameBinders one other binders (binders_moved move binders)
    binders_same (one_binder place within source) kept = same_binder kept.0 (whole_same source kept.1.1) same_none_bound
    binders_same (more_binders semicolon place within {ts = ts} {binders = binders} {source = source} given few more) kept =
        subst (HaveSameBinders one other (bound_also binders place source)) (sym (bound_moved move binders place source))
        (also_bound binders (binders_moved move binders) place (place_moved move place) source (moved move source)
        (binders_same given (front ts _ kept)) (back ts _ kept).1.0 (whole_same more (back ts _ kept).1.1.1))

  type_same : (tree : TypeTree) → IsSameType tree (type_moved move tree)
  type_same (int_type at) = same_int
  type_same (bool_type at) = same_bool
  type_same (pair_type at first second) = same_pair_type (type_same first) (type_same second)
  type_same (vector_type at item) = same_vector (type_same item)
  type_same (sequence_type at item) = same_sequence (type_same item)

  -- parameters and one more, and declarations
  also_parameter : (given its_given : List TypedName) (last its_last : TypedName) → HaveSameParameters one other given its_given → IsSameTyped one other last its_last
      → HaveSameParameters one other (given ++ last ∷ []) (its_given ++ its_last ∷ [])
  also_parameter [] its_given last its_last same_parameters more = same_parameter more same_parameters
  also_parameter (first ∷ others) its_given last its_last (same_parameter {its_others = its_others} h rest) more =
      same_parameter h (also_parameter others its_others last its_last rest more)

  also_declared : (given its_given : List DeclarationTree) (last its_last : DeclarationTree)
      → HaveSameDeclarations one other given its_given → IsSameDeclaration one other last its_last
      → HaveSameDeclarations one other (given ++ last ∷ []) (its_given ++ its_last ∷ [])
  also_declared [] its_given last its_last same_declarations more = same_declaration more same_declarations
  also_declared (first ∷ others) its_given last its_last (same_declaration {its_others = its_others} h rest) more =
      same_declaration h (also_declared others its_others last its_last rest more)

  parameters_same : {ts : List Token} {parameters : List TypedName} → WholeParameters ts parameters → AreNamesKept ts
      → HaveSameParameters one other parameters (map (typed_moved move) parameters)
  parameters_same (one_parameter place colon {written = written} whole) kept = same_parameter (kept.0, type_same written) same_parameters
  parameters_same (more_parameters comma place colon {ts = ts} {given = given} {written = written} whole of_type) kept =
      let last : TypedName = record { place = place; written = written } in
      subst (HaveSameParameters one other (given ++ last ∷ [])) (sym (map-append (typed_moved move) given (last ∷ [])))
      (also_parameter given (map (typed_moved move) given) last (typed_moved move last) (parameters_same whole (front ts _ kept))
      ((back ts _ kept).1.0, type_same written))

  declaration_same : {ts : List Token} {declaration : DeclarationTree} → WholeDeclaration ts declaration → AreNamesKept ts
      → IsSameDeclaration one other declaration (declaration_moved move declaration)
  declaration_same (input_rule at place colon semicolon {written = written} whole) kept = same_input (kept.1.0, type_same written)
  declaration_same (function_rule at place opened closed colon equals semicolon {ts = ts} {us = us} {vs = vs} {result = result} parameters of_type body) kept =
      same_function kept.1.0 (parameters_same parameters (front ts _ kept.1.1.1)) (type_same result)
      (whole_same body (front vs _ (back us _ (back ts _ kept.1.1.1).1.1).1))

  declarations_same : {ts : List Token} {declarations : List DeclarationTree} → WholeDeclarations ts declarations → AreNamesKept ts
      → HaveSameDeclarations one other declarations (map (declaration_moved move) declarations)
  declarations_same no_declarations kept = same_declarations
  declarations_same (more_declarations {ts = ts} {given = given} {last = last} whole more) kept =
      subst (HaveSameDeclarations one other (given ++ last ∷ [])) (sym (map-append (declaration_moved move) given (last ∷ [])))
      (also_declared given (map (declaration_moved move) given) last (declaration_moved move last) (declarations_same whole (front ts _ kept))
      (declaration_same more (back ts _ kept)))

  -- a program, and where its offsets are moved, are the same
  pub program_same : {ts : List Token} {program : ProgramTree} → WholeProgram ts program → AreNamesKept ts
      → IsSameProgram one program other (program_moved move program)
  program_same (program_rule {named = named} {ts = ts} _ declarations expression) kept =
      record {
        dialect = refl;
        declarations = declarations_same declarations (front ts _ (back named _ kept));
        expression = whole_same expression (back ts _ (back named _ kept));
      }
