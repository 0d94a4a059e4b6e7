-- Programs as trees.
use Rattle.std.specs.Prelude.{ℕ, suc, max, ℤ, Bool, List}
use Rattle.snesl_data.specs.declared.dialect.Dialect.{Dialect}
use Rattle.snesl_grammar.specs.declared.tree.operator.Builtin.{Builtin}
use Rattle.snesl_grammar.specs.declared.tree.operator.Operator.{Operator}
use Rattle.snesl_grammar.specs.declared.tree.operator.Prefix.{Prefix}
use Rattle.snesl_grammar.specs.declared.tree.span.Span.{Span}

mutual
  -- an expression; each form keeps an offset, a binary one that of its operator, others that of their first token
  pub data Tree : Type 0 where
    integer : (at : ℕ) (value : ℤ) → Tree
    truth : (at : ℕ) (value : Bool) → Tree
    name : (place : Span) → Tree
    binary : (at : ℕ) (operator : Operator) (left right : Tree) → Tree
    prefix : (at : ℕ) (operator : Prefix) (operand : Tree) → Tree
    -- a built-in function, and a declared one, at arguments
    call : (at : ℕ) (function : Builtin) (arguments : Trees) → Tree
    apply : (function : Span) (arguments : Trees) → Tree
    group : (at : ℕ) (inner : Tree) → Tree
    pair : (at : ℕ) (first second : Tree) → Tree
    binding : (at : ℕ) (place : Span) (value body : Tree) → Tree
    choice : (at : ℕ) (condition positive negative : Tree) → Tree
    literal : (at : ℕ) (items : Trees) → Tree
    filter : (at : ℕ) (item condition : Tree) → Tree
    each : (at : ℕ) (body : Tree) (binders : Binders) (condition : Condition) → Tree

  -- arguments, or items, in order
  pub data Trees : Type 0 where
    none : Trees
    both : (first : Tree) (others : Trees) → Trees

  -- the binders of a comprehension in order: names in sources
  pub data Binders : Type 0 where
    none_bound : Binders
    binder : (place : Span) (source : Tree) (others : Binders) → Binders

  -- which elements a comprehension takes
  pub data Condition : Type 0 where
    always : Condition
    only_where : (condition : Tree) → Condition

abbrev mutual
  -- an integer, `true`, `false` or a name has depth 1, every other form 1 more than its deepest part
  pub depth : Tree → ℕ
  depth (integer at value) = 1
  depth (truth at value) = 1
  depth (name place) = 1
  depth (binary at operator left right) = suc (max (depth left) (depth right))
  depth (prefix at operator operand) = suc (depth operand)
  depth (call at function arguments) = suc (depth_of_all arguments)
  depth (apply function arguments) = suc (depth_of_all arguments)
  depth (group at inner) = suc (depth inner)
  depth (pair at first second) = suc (max (depth first) (depth second))
  depth (binding at place value body) = suc (max (depth value) (depth body))
  depth (choice at condition positive negative) = suc (max (depth condition) (max (depth positive) (depth negative)))
  depth (literal at items) = suc (depth_of_all items)
  depth (filter at item condition) = suc (max (depth item) (depth condition))
  depth (each at body binders condition) = suc (max (depth body) (max (depth_of_binders binders) (depth_of_condition condition)))

  pub depth_of_all : Trees → ℕ
  depth_of_all none = 0
  depth_of_all (both first others) = max (depth first) (depth_of_all others)

  -- a binder has no depth of its own
  pub depth_of_binders : Binders → ℕ
  depth_of_binders none_bound = 0
  depth_of_binders (binder place source others) = max (depth source) (depth_of_binders others)

  pub depth_of_condition : Condition → ℕ
  depth_of_condition always = 0
  depth_of_condition (only_where condition) = depth condition

-- the offset that a form keeps
abbrev pub offset : Tree → ℕ
offset (integer at value) = at
offset (truth at value) = at
offset (name place) = place.at
offset (binary at operator left right) = at
offset (prefix at operator operand) = at
offset (call at function arguments) = at
offset (apply function arguments) = function.at
offset (group at inner) = at
offset (pair at first second) = at
offset (binding at place value body) = at
offset (choice at condition positive negative) = at
offset (literal at items) = at
offset (filter at item condition) = at
offset (each at body binders condition) = at

-- a type as the text has it, each form with the offset of its first token
pub data TypeTree : Type 0 where
  int_type : (at : ℕ) → TypeTree
  bool_type : (at : ℕ) → TypeTree
  pair_type : (at : ℕ) (first second : TypeTree) → TypeTree
  vector_type : (at : ℕ) (item : TypeTree) → TypeTree
  sequence_type : (at : ℕ) (item : TypeTree) → TypeTree

-- `int` and `bool` have depth 1, every other type 1 more than its deepest part
abbrev pub type_depth : TypeTree → ℕ
type_depth (int_type at) = 1
type_depth (bool_type at) = 1
type_depth (pair_type at first second) = suc (max (type_depth first) (type_depth second))
type_depth (vector_type at item) = suc (type_depth item)
type_depth (sequence_type at item) = suc (type_depth item)

-- a name and its type
pub record TypedName : Type 0 where
  pub place : Span
  pub written : TypeTree

-- a declaration: an input, or a function of parameters with the type of its result and its body
pub data DeclarationTree : Type 0 where
  declares_input : (declared : TypedName) → DeclarationTree
  declares_function : (place : Span) (parameters : List TypedName) (result : TypeTree) (body : Tree) → DeclarationTree

-- a program: the dialect of its integers, its declarations in order, and its expression
pub record ProgramTree : Type 0 where
  pub dialect : Dialect
  pub declarations : List DeclarationTree
  pub expression : Tree
