-- Sizes of types and of expressions, and their limits.
use Rattle.std.specs.Prelude.{ℕ, suc, ◌+◌, nat_le, Bool, if◌then◌else◌, List, [], ◌∷◌}
use Rattle.std.specs.Str.{bytes_eq}
use Rattle.snesl_data.specs.Types.{Ty, int, bool, pair, vec, seq}
use Rattle.snesl_grammar.specs.tree.Spelling.{spelling}
use Rattle.snesl_grammar.specs.tree.Tree.{Tree, Trees, Binders, Condition, integer, truth, name, binary, prefix, call, apply, group, pair as pair_tree}
use Rattle.snesl_grammar.specs.tree.Tree.{binding, choice, literal, filter, each, none, both, none_bound, binder, always, only_where}

-- how often `int`, `bool`, pairs, vectors and sequences occur in a type
abbrev pub type_size : Ty → ℕ
type_size int = 1
type_size bool = 1
type_size (pair first second) = suc (type_size first + type_size second)
type_size (vec item) = suc (type_size item)
type_size (seq item) = suc (type_size item)

-- the greatest size of a type
abbrev pub greatest_type_size : ℕ
greatest_type_size = 256

abbrev pub is_small : Ty → Bool
is_small t = nat_le (type_size t) greatest_type_size

-- the greatest size of the final expression with its calls written out
abbrev pub greatest_size : ℕ
greatest_size = 65536

-- the greatest number of functions, and of inputs
abbrev pub greatest_count : ℕ
greatest_count = 64

-- the names of functions, each with the size of the function's body
abbrev pub BodySizes : Type 0
BodySizes = List (List ℕ × ℕ)

abbrev pub body_size : List ℕ → BodySizes → ℕ
body_size bytes [] = 0
body_size bytes (entry ∷ entries) = if bytes_eq bytes entry.0 then entry.1 else body_size bytes entries

abbrev mutual
  -- the size of an expression with its calls written out: each form as the text has it, parentheses included,
  -- counts 1, and a call of a declared function counts the function's body too
  pub size : (text : List ℕ) (sizes : BodySizes) → Tree → ℕ
  size text sizes (integer at value) = 1
  size text sizes (truth at value) = 1
  size text sizes (name place) = 1
  size text sizes (binary at operator left right) = suc (size text sizes left + size text sizes right)
  size text sizes (prefix at operator operand) = suc (size text sizes operand)
  size text sizes (call at function arguments) = suc (size_of_all text sizes arguments)
  size text sizes (apply place arguments) =
      suc (size_of_all text sizes arguments + body_size (spelling text place) sizes)
  size text sizes (group at inner) = suc (size text sizes inner)
  size text sizes (pair_tree at first second) = suc (size text sizes first + size text sizes second)
  size text sizes (binding at place value body) = suc (size text sizes value + size text sizes body)
  size text sizes (choice at condition positive negative) =
      suc (size text sizes condition + (size text sizes positive + size text sizes negative))
  size text sizes (literal at items) = suc (size_of_all text sizes items)
  size text sizes (filter at item condition) = suc (size text sizes item + size text sizes condition)
  size text sizes (each at body binders condition) =
      suc (size_of_binders text sizes binders + (size_of_condition text sizes condition + size text sizes body))

  pub size_of_all : (text : List ℕ) (sizes : BodySizes) → Trees → ℕ
  size_of_all text sizes none = 0
  size_of_all text sizes (both first others) = size text sizes first + size_of_all text sizes others

  -- a binder counts its sequence
  pub size_of_binders : (text : List ℕ) (sizes : BodySizes) → Binders → ℕ
  size_of_binders text sizes none_bound = 0
  size_of_binders text sizes (binder place source others) = size text sizes source + size_of_binders text sizes others

  pub size_of_condition : (text : List ℕ) (sizes : BodySizes) → Condition → ℕ
  size_of_condition text sizes always = 0
  size_of_condition text sizes (only_where condition) = size text sizes condition
