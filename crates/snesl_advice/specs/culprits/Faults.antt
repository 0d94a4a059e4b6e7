-- Which part of a form is at fault, by the types that clash in it.
use Rattle.std.specs.Prelude.{Bool, true, false, ◌||◌, ◌==◌, if◌then◌else◌, List, [], ◌∷◌, length, Option, Some, None}
use Rattle.snesl_data.specs.Types.{Ty, int, bool, vec, seq, is_same}
use Rattle.snesl_grammar.specs.declared.tree.operator.Operator.{Operator}
use Rattle.snesl_grammar.specs.declared.tree.operator.Operator.TheVariants.{Or, And, Equal, Append, Index}
use Rattle.snesl_grammar.specs.declared.tree.operator.Builtin.{Builtin}
use Rattle.snesl_grammar.specs.declared.tree.operator.Builtin.TheVariants.{Part}
use Rattle.snesl_grammar.specs.tree.Tree.{Tree, Trees, Condition, always, none, both, binary, prefix, call, apply, choice, literal, filter, each, only_where}
use Rattle.snesl_types.specs.Clashes.{Clash, operands, arguments, parameters, branches, items}
use Rattle.snesl_types.specs.Misfitting.{is_sequence}

-- whether this is a vector's type
abbrev pub is_vector : Ty → Bool
is_vector (vec item) = true
is_vector _ = false

-- whether the operator takes a left operand of this type, beside some right one
abbrev pub takes_left : Operator → Ty → Bool
takes_left Or t = is_same t bool
takes_left And t = is_same t bool
takes_left Equal t = is_same t int || is_same t bool
takes_left Append t = is_sequence t
takes_left Index t = is_vector t
takes_left _ t = is_same t int

-- of an operator's operands: the left one, unless the operator takes one of its type
abbrev pub operand_at_fault : Clash → Operator → (left right : Tree) → Option Tree
operand_at_fault (operands t u) operator left right = Some (if takes_left operator t then right else left)
operand_at_fault clash operator left right = None

-- whether the first of these types is that of a sequence
abbrev pub begins_with_sequence : Clash → Bool
begins_with_sequence (arguments (seq t ∷ ts)) = true
begins_with_sequence clash = false

-- of a built-in function's arguments: the only one; of the two of `part` the first, unless that is a sequence
abbrev pub argument_at_fault : Clash → Builtin → Trees → Option Tree
argument_at_fault clash function (both only none) = Some only
argument_at_fault clash Part (both first (both second none)) = Some (if begins_with_sequence clash then second else first)
argument_at_fault clash function trees = None

-- of parts of these types: the first whose type is not the one that is wanted in its place
abbrev pub other_than : (wanted ts : List Ty) → Trees → Option Tree
other_than (wanted ∷ us) (t ∷ ts) (both first others) = if is_same t wanted then other_than us ts others else Some first
other_than us ts trees = None

-- of a declared function's arguments: the first of another type than its parameter, where there are as many
abbrev pub parameter_at_fault : Clash → Trees → Option Tree
parameter_at_fault (parameters ts us) trees = if length ts == length us then other_than us ts trees else None
parameter_at_fault clash trees = None

-- of an `if`: the condition, unless that is a truth value, and else its second branch
abbrev pub branch_at_fault : Clash → (cond negative : Tree) → Option Tree
branch_at_fault (branches t u v) cond negative = Some (if is_same t bool then negative else cond)
branch_at_fault clash cond negative = None

-- of a literal's items: the first that is of another type than the one before it
abbrev pub item_at_fault : Clash → Trees → Option Tree
item_at_fault (items (t ∷ ts)) (both first others) = other_than (t ∷ ts) ts others
item_at_fault clash trees = None

-- a comprehension's condition
abbrev pub condition_at_fault : Condition → Option Tree
condition_at_fault always = None
condition_at_fault (only_where cond) = Some cond

-- the part of a form that is at fault, by the types that clash in it
abbrev pub at_fault : Clash → Tree → Option Tree
at_fault clash (prefix at operator only) = Some only
at_fault clash (binary at operator left right) = operand_at_fault clash operator left right
at_fault clash (call at function trees) = argument_at_fault clash function trees
at_fault clash (apply place trees) = parameter_at_fault clash trees
at_fault clash (choice at cond positive negative) = branch_at_fault clash cond negative
at_fault clash (literal at trees) = item_at_fault clash trees
at_fault clash (filter at item cond) = Some cond
at_fault clash (each at within binders cond) = condition_at_fault cond
at_fault clash tree = None
