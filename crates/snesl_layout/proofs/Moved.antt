-- Tokens whose offsets are moved are the program whose offsets are moved.
use Rattle.std.proofs.Common.{◌≡◌, ℕ, suc, ◌<◌, List, [], ◌∷◌, map, refl, sym, ap, subst}
use Rattle.std.proofs.lemmas.List.{map-append}
use Rattle.snesl_grammar.specs.declared.lexer.token.Token.{Token}
use Rattle.snesl_data.specs.declared.dialect.Dialect.{Dialect}
use Rattle.snesl_grammar.specs.declared.tree.span.Span.{Span}
use Rattle.snesl_grammar.specs.tree.Tree.{Tree, Trees, Binders, Condition, integer, truth, name, binary, prefix, call, apply, group, pair, binding, choice}
use Rattle.snesl_grammar.specs.tree.Tree.{literal, filter, each, none, both, none_bound, binder, always, only_where, depth, depth_of_all, depth_of_binders}
use Rattle.snesl_grammar.specs.tree.Tree.{depth_of_condition, TypeTree, int_type, bool_type, pair_type, vector_type, sequence_type, type_depth, TypedName}
use Rattle.snesl_grammar.specs.tree.Tree.{DeclarationTree, declares_input, declares_function, ProgramTree}
use Rattle.snesl_grammar.specs.Expressions.{added, bound_also, binder_count, greatest_binder_count, Whole, integer_rule, truth_rule, name_rule}
use Rattle.snesl_grammar.specs.Expressions.{binary_rule, prefix_rule, call_rule, apply_rule, group_rule, pair_rule, let_rule, if_rule, literal_rule}
use Rattle.snesl_grammar.specs.Expressions.{filter_rule, each_rule, each_where_rule, WholeArguments, one_rule, more_rule, WholeBinders, one_binder}
use Rattle.snesl_grammar.specs.Expressions.{more_binders}
use Rattle.snesl_grammar.specs.Types.{WholeType, int_rule, bool_rule, pair_type_rule, vector_rule, sequence_rule}
use Rattle.snesl_grammar.specs.Programs.{parameters_depth, declaration_depth, declarations_depth, program_depth, WholeParameters, one_parameter}
use Rattle.snesl_grammar.specs.Programs.{more_parameters, WholeDeclaration, input_rule, function_rule, WholeDeclarations, no_declarations}
use Rattle.snesl_grammar.specs.Programs.{more_declarations, WholeDialect, no_dialect, dialect_rule, WholeProgram, program_rule}

module _ (move : ℕ → ℕ) where
  -- the token at the offset that its own is moved to, and the place
  abbrev pub token_moved : Token → Token
  token_moved token = record { kind = token.kind; at = move token.at }

  abbrev pub place_moved : Span → Span
  place_moved place = record { at = move place.at; len = place.len }

  abbrev mutual
    pub moved : Tree → Tree
    moved (integer at value) = integer (move at) value
    moved (truth at value) = truth (move at) value
    moved (name place) = name (place_moved place)
    moved (binary at operator left right) = binary (move at) operator (moved left) (moved right)
    moved (prefix at operator operand) = prefix (move at) operator (moved operand)
    moved (call at function arguments) = call (move at) function (all_moved arguments)
    moved (apply function arguments) = apply (place_moved function) (all_moved arguments)
    moved (group at inner) = group (move at) (moved inner)
    moved (pair at first second) = pair (move at) (moved first) (moved second)
    moved (binding at place value body) = binding (move at) (place_moved place) (moved value) (moved body)
    moved (choice at condition positive negative) = choice (move at) (moved condition) (moved positive) (moved negative)
    moved (literal at items) = literal (move at) (all_moved items)
    moved (filter at item condition) = filter (move at) (moved item) (moved condition)
    moved (each at body binders condition) = each (move at) (moved body) (binders_moved binders) (condition_moved condition)

    pub all_moved : Trees → Trees
    all_moved none = none
    all_moved (both first others) = both (moved first) (all_moved others)

    pub binders_moved : Binders → Binders
    binders_moved none_bound = none_bound
    binders_moved (binder place source others) = binder (place_moved place) (moved source) (binders_moved others)

    pub condition_moved : Condition → Condition
    condition_moved always = always
    condition_moved (only_where condition) = only_where (moved condition)

  abbrev pub type_moved : TypeTree → TypeTree
  type_moved (int_type at) = int_type (move at)
  type_moved (bool_type at) = bool_type (move at)
  type_moved (pair_type at first second) = pair_type (move at) (type_moved first) (type_moved second)
  type_moved (vector_type at item) = vector_type (move at) (type_moved item)
  type_moved (sequence_type at item) = sequence_type (move at) (type_moved item)

  abbrev pub typed_moved : TypedName → TypedName
  typed_moved typed = record { place = place_moved typed.place; written = type_moved typed.written }

  abbrev pub declaration_moved : DeclarationTree → DeclarationTree
  declaration_moved (declares_input declared) = declares_input (typed_moved declared)
  declaration_moved (declares_function place parameters result body) =
      declares_function (place_moved place) (map typed_moved parameters) (type_moved result) (moved body)

  abbrev pub program_moved : ProgramTree → ProgramTree
  program_moved program =
      record { dialect = program.dialect; declarations = map declaration_moved program.declarations; expression = moved program.expression }

  -- arguments with one more are moved one by one, and binders
  pub added_moved : (given : Trees) (last : Tree) → all_moved (added given last) ≡ added (all_moved given) (moved last)
  added_moved none last = refl
  added_moved (both first others) last = ap (both (moved first)) (added_moved others last)

  pub bound_moved : (binders : Binders) (place : Span) (source : Tree)
      → binders_moved (bound_also binders place source) ≡ bound_also (binders_moved binders) (place_moved place) (moved source)
  bound_moved none_bound place source = refl
  bound_moved (binder first its_source others) place source =
      ap (binder (place_moved first) (moved its_source)) (bound_moved others place source)

  count_moved : (binders : Binders) → binder_count (binders_moved binders) ≡ binder_count binders
  count_moved none_bound = refl
  count_moved (binder place source others) = ap suc (count_moved others)

  mutual
    -- moved tokens are the moved expression
    pub whole_moved : {here : ℕ} {ts : List Token} {tree : Tree} → Whole here ts tree → Whole here (map token_moved ts) (moved tree)
    whole_moved integer_rule = integer_rule
    whole_moved (truth_rule {value = value}) = truth_rule {value = value}
    whole_moved (name_rule place) = name_rule (place_moved place)
    whole_moved (binary_rule {at = at} {operator = operator} within left right) =
        simp map-append (binary_rule {at = move at} {operator = operator} within (whole_moved left) (whole_moved right))
    whole_moved (prefix_rule {at = at} {operator = operator} within operand) =
        prefix_rule {at = move at} {operator = operator} within (whole_moved operand)
    whole_moved (call_rule {at = at} {opened = opened} closed {function = function} arguments) =
        simp map-append (call_rule {at = move at} {opened = move opened} (move closed) {function = function} (arguments_moved arguments))
    whole_moved (apply_rule {opened = opened} function closed arguments) =
        simp map-append (apply_rule {opened = move opened} (place_moved function) (move closed) (arguments_moved arguments))
    whole_moved (group_rule {at = at} closed inner) =
        simp map-append (group_rule {at = move at} (move closed) (whole_moved inner))
    whole_moved (pair_rule {at = at} comma closed first second) =
        simp map-append (pair_rule {at = move at} (move comma) (move closed) (whole_moved first) (whole_moved second))
    whole_moved (let_rule {at = at} place {equals = equals} within value body) =
        simp map-append (let_rule {at = move at} (place_moved place) {equals = move equals} (move within) (whole_moved value) (whole_moved body))
    whole_moved (if_rule {at = at} next last condition positive negative) =
        simp map-append (if_rule {at = move at} (move next) (move last) (whole_moved condition) (whole_moved positive) (whole_moved negative))
    whole_moved (literal_rule {at = at} closed items) =
        simp map-append (literal_rule {at = move at} (move closed) (arguments_moved items))
    whole_moved (filter_rule {at = at} bar closed item condition) =
        simp map-append (filter_rule {at = move at} (move bar) (move closed) (whole_moved item) (whole_moved condition))
    whole_moved (each_rule {at = at} colon closed body binders) =
        simp map-append (each_rule {at = move at} (move colon) (move closed) (whole_moved body) (all_binders_moved binders))
    whole_moved (each_where_rule {at = at} colon bar closed body binders condition) =
        simp map-append (each_where_rule {at = move at} (move colon) (move bar) (move closed) (whole_moved body) (all_binders_moved binders) (whole_moved condition))

    pub arguments_moved : {ts : List Token} {arguments : Trees} → WholeArguments ts arguments → WholeArguments (map token_moved ts) (all_moved arguments)
    arguments_moved (one_rule only) = one_rule (whole_moved only)
    arguments_moved (more_rule comma {arguments = arguments} {last = last} given more) =
        simp (map-append, added_moved arguments last) (more_rule (move comma) (arguments_moved given) (whole_moved more))

    pub all_binders_moved : {ts : List Token} {binders : Binders} → WholeBinders ts binders → WholeBinders (map token_moved ts) (binders_moved binders)
    all_binders_moved (one_binder place within source) = one_binder (place_moved place) (move within) (whole_moved source)
    all_binders_moved (more_binders semicolon place within {binders = binders} {source = source} given few more) =
        simp (map-append, bound_moved binders place source)
        (more_binders (move semicolon) (place_moved place) (move within) (all_binders_moved given)
        (subst (λ n. n < greatest_binder_count) (sym (count_moved binders)) few) (whole_moved more))

  pub type_whole_moved : {ts : List Token} {tree : TypeTree} → WholeType ts tree → WholeType (map token_moved ts) (type_moved tree)
  type_whole_moved int_rule = int_rule
  type_whole_moved bool_rule = bool_rule
  type_whole_moved (pair_type_rule {at = at} comma closed first second) =
      simp map-append (pair_type_rule {at = move at} (move comma) (move closed) (type_whole_moved first) (type_whole_moved second))
  type_whole_moved (vector_rule {at = at} closed item) =
      simp map-append (vector_rule {at = move at} (move closed) (type_whole_moved item))
  type_whole_moved (sequence_rule {at = at} closed item) =
      simp map-append (sequence_rule {at = move at} (move closed) (type_whole_moved item))

  parameters_moved : {ts : List Token} {parameters : List TypedName} → WholeParameters ts parameters
      → WholeParameters (map token_moved ts) (map typed_moved parameters)
  parameters_moved (one_parameter place colon written) = one_parameter (place_moved place) (move colon) (type_whole_moved written)
  parameters_moved (more_parameters comma place colon given written) =
      simp map-append (more_parameters (move comma) (place_moved place) (move colon) (parameters_moved given) (type_whole_moved written))

  declaration_whole_moved : {ts : List Token} {declaration : DeclarationTree} → WholeDeclaration ts declaration
      → WholeDeclaration (map token_moved ts) (declaration_moved declaration)
  declaration_whole_moved (input_rule at place colon semicolon written) =
      simp map-append (input_rule (move at) (place_moved place) (move colon) (move semicolon) (type_whole_moved written))
  declaration_whole_moved (function_rule at place opened closed colon equals semicolon parameters result body) =
      simp map-append (function_rule (move at) (place_moved place) (move opened) (move closed) (move colon) (move equals) (move semicolon)
      (parameters_moved parameters) (type_whole_moved result) (whole_moved body))

  declarations_moved : {ts : List Token} {declarations : List DeclarationTree} → WholeDeclarations ts declarations
      → WholeDeclarations (map token_moved ts) (map declaration_moved declarations)
  declarations_moved no_declarations = no_declarations
  declarations_moved (more_declarations given last) =
      simp map-append (more_declarations (declarations_moved given) (declaration_whole_moved last))

  dialect_moved : {ts : List Token} {dialect : Dialect} → WholeDialect ts dialect → WholeDialect (map token_moved ts) dialect
  dialect_moved no_dialect = no_dialect
  dialect_moved (dialect_rule at number semicolon) = dialect_rule (move at) (move number) (move semicolon)

  -- moved tokens are the moved program
  pub program_whole_moved : {ts : List Token} {program : ProgramTree} → WholeProgram ts program → WholeProgram (map token_moved ts) (program_moved program)
  program_whole_moved (program_rule named declarations expression) =
      simp map-append (program_rule (dialect_moved named) (declarations_moved declarations) (whole_moved expression))

  mutual
    -- what is moved is as deep as before
    depth_moved : (tree : Tree) → depth (moved tree) ≡ depth tree
    depth_moved (integer at value) = refl
    depth_moved (truth at value) = refl
    depth_moved (name place) = refl
    depth_moved (binary at operator left right) = rw (depth_moved left, depth_moved right) refl
    depth_moved (prefix at operator operand) = ap suc (depth_moved operand)
    depth_moved (call at function arguments) = ap suc (depth_all_moved arguments)
    depth_moved (apply function arguments) = ap suc (depth_all_moved arguments)
    depth_moved (group at inner) = ap suc (depth_moved inner)
    depth_moved (pair at first second) = rw (depth_moved first, depth_moved second) refl
    depth_moved (binding at place value body) = rw (depth_moved value, depth_moved body) refl
    depth_moved (choice at condition positive negative) = rw (depth_moved condition, depth_moved positive, depth_moved negative) refl
    depth_moved (literal at items) = ap suc (depth_all_moved items)
    depth_moved (filter at item condition) = rw (depth_moved item, depth_moved condition) refl
    depth_moved (each at body binders condition) =
        rw (depth_moved body, depth_binders_moved binders, depth_condition_moved condition) refl

    depth_all_moved : (trees : Trees) → depth_of_all (all_moved trees) ≡ depth_of_all trees
    depth_all_moved none = refl
    depth_all_moved (both first others) = rw (depth_moved first, depth_all_moved others) refl

    depth_binders_moved : (binders : Binders) → depth_of_binders (binders_moved binders) ≡ depth_of_binders binders
    depth_binders_moved none_bound = refl
    depth_binders_moved (binder place source others) = rw (depth_moved source, depth_binders_moved others) refl

    depth_condition_moved : (condition : Condition) → depth_of_condition (condition_moved condition) ≡ depth_of_condition condition
    depth_condition_moved always = refl
    depth_condition_moved (only_where condition) = depth_moved condition

  type_depth_moved : (tree : TypeTree) → type_depth (type_moved tree) ≡ type_depth tree
  type_depth_moved (int_type at) = refl
  type_depth_moved (bool_type at) = refl
  type_depth_moved (pair_type at first second) = rw (type_depth_moved first, type_depth_moved second) refl
  type_depth_moved (vector_type at item) = ap suc (type_depth_moved item)
  type_depth_moved (sequence_type at item) = ap suc (type_depth_moved item)

  parameters_depth_moved : (parameters : List TypedName) → parameters_depth (map typed_moved parameters) ≡ parameters_depth parameters
  parameters_depth_moved [] = refl
  parameters_depth_moved (first ∷ others) = rw (type_depth_moved first.written, parameters_depth_moved others) refl

  declaration_depth_moved : (declaration : DeclarationTree) → declaration_depth (declaration_moved declaration) ≡ declaration_depth declaration
  declaration_depth_moved (declares_input declared) = type_depth_moved declared.written
  declaration_depth_moved (declares_function place parameters result body) =
      rw (parameters_depth_moved parameters, type_depth_moved result, depth_moved body) refl

  declarations_depth_moved : (declarations : List DeclarationTree) → declarations_depth (map declaration_moved declarations) ≡ declarations_depth declarations
  declarations_depth_moved [] = refl
  declarations_depth_moved (first ∷ others) = rw (declaration_depth_moved first, declarations_depth_moved others) refl

  pub program_depth_moved : (program : ProgramTree) → program_depth (program_moved program) ≡ program_depth program
  program_depth_moved program = rw (declarations_depth_moved program.declarations, depth_moved program.expression) refl
