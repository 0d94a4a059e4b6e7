-- Where forms begin.
use Rattle.std.specs.Prelude.{ℕ, Option, option_map}
use Rattle.snesl_grammar.specs.tree.Tree.{Tree, binary, offset}

-- the offset of a form's first token: an operator between two operands begins with the left one
abbrev pub first_offset : Tree → ℕ
first_offset (binary at operator left right) = first_offset left
first_offset tree = offset tree

-- that of a form, if there is one
abbrev pub offset_of : Option Tree → Option ℕ
offset_of tree = option_map first_offset tree
