-- When two programs, each with its text, are the same but for offsets.
-- Each form has a rule, and there is no other: forms, operators, functions and values agree, the parts are the same in their
-- order, and the places of names have the same bytes. Of offsets nothing is said.
use Rattle.std.specs.Prelude.{◌≡◌, ℕ, ℤ, Bool, List, [], ◌∷◌, Ok}
use Rattle.snesl_grammar.specs.declared.tree.operator.Builtin.{Builtin}
use Rattle.snesl_grammar.specs.declared.tree.operator.Operator.{Operator}
use Rattle.snesl_grammar.specs.declared.tree.operator.Prefix.{Prefix}
use Rattle.snesl_grammar.specs.declared.tree.span.Span.{Span}
use Rattle.snesl_grammar.specs.tree.Spelling.{spelling}
use Rattle.snesl_grammar.specs.tree.Tree.{Tree, Trees, Binders, Condition, integer, truth, name, binary, prefix, call, apply, group, pair, binding, choice}
use Rattle.snesl_grammar.specs.tree.Tree.{literal, filter, each, none, both, none_bound, binder, always, only_where, TypeTree, int_type, bool_type, pair_type}
use Rattle.snesl_grammar.specs.tree.Tree.{vector_type, sequence_type, TypedName, DeclarationTree, declares_input, declares_function, ProgramTree}
use Rattle.snesl_syntax.specs.Parse.{Parses}

-- one text has at one place the bytes that the other has at the other: the same name
abbrev pub IsSameName : (one other : List ℕ) → (place its_place : Span) → Type 0
IsSameName one other place its_place = spelling one place ≡ spelling other its_place

mutual
  -- two expressions are the same but for offsets
  pub data IsSame (one other : List ℕ) : Tree → Tree → Type 0 where
    same_integer : {at its_at : ℕ} {value : ℤ} → IsSame one other (integer at value) (integer its_at value)
    same_truth : {at its_at : ℕ} {value : Bool} → IsSame one other (truth at value) (truth its_at value)
    same_name : {place its_place : Span} → IsSameName one other place its_place → IsSame one other (name place) (name its_place)
    same_binary : {at its_at : ℕ} {operator : Operator} {left its_left right its_right : Tree}
        → IsSame one other left its_left → IsSame one other right its_right
        → IsSame one other (binary at operator left right) (binary its_at operator its_left its_right)
    same_prefix : {at its_at : ℕ} {operator : Prefix} {operand its_operand : Tree}
        → IsSame one other operand its_operand → IsSame one other (prefix at operator operand) (prefix its_at operator its_operand)
    same_call : {at its_at : ℕ} {function : Builtin} {arguments its_arguments : Trees}
        → AreSame one other arguments its_arguments → IsSame one other (call at function arguments) (call its_at function its_arguments)
    same_apply : {function its_function : Span} {arguments its_arguments : Trees}
        → IsSameName one other function its_function → AreSame one other arguments its_arguments
        → IsSame one other (apply function arguments) (apply its_function its_arguments)
    same_group : {at its_at : ℕ} {inner its_inner : Tree}
        → IsSame one other inner its_inner → IsSame one other (group at inner) (group its_at its_inner)
    same_pair : {at its_at : ℕ} {first its_first second its_second : Tree}
        → IsSame one other first its_first → IsSame one other second its_second
        → IsSame one other (pair at first second) (pair its_at its_first its_second)
    same_binding : {at its_at : ℕ} {place its_place : Span} {value its_value body its_body : Tree}
        → IsSameName one other place its_place → IsSame one other value its_value → IsSame one other body its_body
        → IsSame one other (binding at place value body) (binding its_at its_place its_value its_body)
    same_choice : {at its_at : ℕ} {condition its_condition positive its_positive negative its_negative : Tree}
        → IsSame one other condition its_condition → IsSame one other positive its_positive → IsSame one other negative its_negative
        → IsSame one other (choice at condition positive negative) (choice its_at its_condition its_positive its_negative)
    same_literal : {at its_at : ℕ} {items its_items : Trees}
        → AreSame one other items its_items → IsSame one other (literal at items) (literal its_at its_items)
    same_filter : {at its_at : ℕ} {item its_item condition its_condition : Tree}
        → IsSame one other item its_item → IsSame one other condition its_condition
        → IsSame one other (filter at item condition) (filter its_at its_item its_condition)
    same_each : {at its_at : ℕ} {body its_body : Tree} {binders its_binders : Binders} {condition its_condition : Condition}
        → IsSame one other body its_body → HaveSameBinders one other binders its_binders → IsSameCondition one other condition its_condition
        → IsSame one other (each at body binders condition) (each its_at its_body its_binders its_condition)

  -- so are arguments, or items, in their order
  pub data AreSame (one other : List ℕ) : Trees → Trees → Type 0 where
    same_none : AreSame one other none none
    same_both : {first its_first : Tree} {others its_others : Trees}
        → IsSame one other first its_first → AreSame one other others its_others
        → AreSame one other (both first others) (both its_first its_others)

  -- so are binders, in their order
  pub data HaveSameBinders (one other : List ℕ) : Binders → Binders → Type 0 where
    same_none_bound : HaveSameBinders one other none_bound none_bound
    same_binder : {place its_place : Span} {source its_source : Tree} {others its_others : Binders}
        → IsSameName one other place its_place → IsSame one other source its_source → HaveSameBinders one other others its_others
        → HaveSameBinders one other (binder place source others) (binder its_place its_source its_others)

  -- so are the conditions of two comprehensions
  pub data IsSameCondition (one other : List ℕ) : Condition → Condition → Type 0 where
    same_always : IsSameCondition one other always always
    same_where : {condition its_condition : Tree}
        → IsSame one other condition its_condition → IsSameCondition one other (only_where condition) (only_where its_condition)

-- two types are the same but for offsets
pub data IsSameType : TypeTree → TypeTree → Type 0 where
  same_int : {at its_at : ℕ} → IsSameType (int_type at) (int_type its_at)
  same_bool : {at its_at : ℕ} → IsSameType (bool_type at) (bool_type its_at)
  same_pair_type : {at its_at : ℕ} {first its_first second its_second : TypeTree}
      → IsSameType first its_first → IsSameType second its_second
      → IsSameType (pair_type at first second) (pair_type its_at its_first its_second)
  same_vector : {at its_at : ℕ} {item its_item : TypeTree}
      → IsSameType item its_item → IsSameType (vector_type at item) (vector_type its_at its_item)
  same_sequence : {at its_at : ℕ} {item its_item : TypeTree}
      → IsSameType item its_item → IsSameType (sequence_type at item) (sequence_type its_at its_item)

-- two names with their types are the same but for offsets
abbrev pub IsSameTyped : (one other : List ℕ) → TypedName → TypedName → Type 0
IsSameTyped one other typed its_typed = IsSameName one other typed.place its_typed.place × IsSameType typed.written its_typed.written

-- so are parameters, in their order
pub data HaveSameParameters (one other : List ℕ) : List TypedName → List TypedName → Type 0 where
  no_parameters : HaveSameParameters one other [] []
  same_parameter : {first its_first : TypedName} {others its_others : List TypedName}
      → IsSameTyped one other first its_first → HaveSameParameters one other others its_others
      → HaveSameParameters one other (first ∷ others) (its_first ∷ its_others)

-- so are two declarations
pub data IsSameDeclaration (one other : List ℕ) : DeclarationTree → DeclarationTree → Type 0 where
  same_input : {typed its_typed : TypedName}
      → IsSameTyped one other typed its_typed → IsSameDeclaration one other (declares_input typed) (declares_input its_typed)
  same_function : {place its_place : Span} {parameters its_parameters : List TypedName} {result its_result : TypeTree} {body its_body : Tree}
      → IsSameName one other place its_place → HaveSameParameters one other parameters its_parameters
      → IsSameType result its_result → IsSame one other body its_body
      → IsSameDeclaration one other (declares_function place parameters result body)
      (declares_function its_place its_parameters its_result its_body)

-- so are declarations, in their order
pub data HaveSameDeclarations (one other : List ℕ) : List DeclarationTree → List DeclarationTree → Type 0 where
  no_declarations : HaveSameDeclarations one other [] []
  same_declaration : {first its_first : DeclarationTree} {others its_others : List DeclarationTree}
      → IsSameDeclaration one other first its_first → HaveSameDeclarations one other others its_others
      → HaveSameDeclarations one other (first ∷ others) (its_first ∷ its_others)

-- two programs, each with its text, are the same but for offsets: in dialect, declarations and expression
pub record IsSameProgram (one : List ℕ) (program : ProgramTree) (other : List ℕ) (its_program : ProgramTree) : Type 0 where
  pub dialect : program.dialect ≡ its_program.dialect
  pub declarations : HaveSameDeclarations one other program.declarations its_program.declarations
  pub expression : IsSame one other program.expression its_program.expression

-- two texts are programs, and these are the same but for offsets
abbrev pub AreOneProgram : List ℕ → List ℕ → Type 0
AreOneProgram one other =
    (program : ProgramTree) × (its_program : ProgramTree)
    × Parses one (Ok program) × Parses other (Ok its_program) × IsSameProgram one program other its_program
