-- Which piece of a program a form is.
use Rattle.std.specs.Prelude.{◌≡◌, ℕ, zero, suc, ◌+◌, ◌-◌, List, [], ◌∷◌, ◌++◌, Bool, ◌==◌, ◌||◌, ◌&&◌, if◌then◌else◌, Option, Some, None, drop, fold, map}
use Rattle.std.specs.List.{list_any, prefix_len}
use Rattle.std.specs.Option.{option_or}
use Rattle.snesl_data.specs.Characters.{is_word}
use Rattle.snesl_grammar.specs.declared.tree.span.Span.{Span}
use Rattle.snesl_grammar.specs.tree.Tree.{Tree, Trees, Binders, Condition, integer, truth, name, binary, prefix, call, apply, group, pair, binding, choice}
use Rattle.snesl_grammar.specs.tree.Tree.{literal, filter, each, none, both, none_bound, binder, always, only_where, offset, DeclarationTree, declares_input}
use Rattle.snesl_grammar.specs.tree.Tree.{declares_function}
use Rattle.snesl_grammar.specs.tree.View.{tree_of, declaration_of}
use Rattle.snesl_grammar.specs.declared.program.Program.{Program}
use Rattle.snesl_advice.specs.culprits.Offsets.{first_offset}
use Rattle.snesl_draw.specs.declared.drawing.Drawing.{Drawing}
use Rattle.snesl_draw.specs.declared.drawing.DrawnForm.{DrawnForm}
use Rattle.snesl_draw.specs.declared.drawing.DrawnNode.{DrawnNode}
use Rattle.snesl_draw.specs.declared.extent.Extent.{Extent}

abbrev mutual
  -- where the last word of a form stands: nothing of the form is behind it but brackets that close
  pub last_offset : Tree → ℕ
  last_offset (integer at value) = at
  last_offset (truth at value) = at
  last_offset (name place) = place.at
  last_offset (binary at operator left right) = last_offset right
  last_offset (prefix at operator operand) = last_offset operand
  last_offset (call at function arguments) = last_among at arguments
  last_offset (apply function arguments) = last_among function.at arguments
  last_offset (group at inner) = last_offset inner
  last_offset (pair at first second) = last_offset second
  last_offset (binding at place value body) = last_offset body
  last_offset (choice at condition positive negative) = last_offset negative
  last_offset (literal at items) = last_among at items
  last_offset (filter at item condition) = last_offset condition
  last_offset (each at body binders condition) = last_tested (last_bound at binders) condition

  -- where the last word of these stands, or else one before them
  pub last_among : ℕ → Trees → ℕ
  last_among before none = before
  last_among before (both first others) = last_among (last_offset first) others

  pub last_bound : ℕ → Binders → ℕ
  last_bound before none_bound = before
  last_bound before (binder place source others) = last_bound (last_offset source) others

  pub last_tested : ℕ → Condition → ℕ
  last_tested before always = before
  last_tested before (only_where condition) = last_offset condition

-- where the first and the last word of a form stand
abbrev pub extent_of : Tree → Extent
extent_of tree = record { first = first_offset tree; last = last_offset tree }

-- that of a form that keeps the offset
abbrev pub own_extent : ℕ → Tree → Option Extent
own_extent at tree = if offset tree == at then Some (extent_of tree) else None

abbrev mutual
  -- that of the first form within another that keeps the offset
  pub extent_inside : ℕ → Tree → Option Extent
  extent_inside at (integer place value) = None
  extent_inside at (truth place value) = None
  extent_inside at (name place) = None
  extent_inside at (binary place operator left right) =
      option_or (option_or (own_extent at left) (extent_inside at left)) (option_or (own_extent at right) (extent_inside at right))
  extent_inside at (prefix place operator operand) = option_or (own_extent at operand) (extent_inside at operand)
  extent_inside at (call place function arguments) = extent_among at arguments
  extent_inside at (apply function arguments) = extent_among at arguments
  extent_inside at (group place inner) = option_or (own_extent at inner) (extent_inside at inner)
  extent_inside at (pair place first second) =
      option_or (option_or (own_extent at first) (extent_inside at first)) (option_or (own_extent at second) (extent_inside at second))
  extent_inside at (binding place named value body) =
      option_or (option_or (own_extent at value) (extent_inside at value)) (option_or (own_extent at body) (extent_inside at body))
  extent_inside at (choice place condition positive negative) =
      option_or (option_or (own_extent at condition) (extent_inside at condition))
      (option_or (option_or (own_extent at positive) (extent_inside at positive)) (option_or (own_extent at negative) (extent_inside at negative)))
  extent_inside at (literal place items) = extent_among at items
  extent_inside at (filter place item condition) =
      option_or (option_or (own_extent at item) (extent_inside at item)) (option_or (own_extent at condition) (extent_inside at condition))
  extent_inside at (each place body binders condition) =
      option_or (option_or (own_extent at body) (extent_inside at body))
      (option_or (extent_in_sources at binders) (extent_in_condition at condition))

  -- that of the first among these, or within them
  pub extent_among : ℕ → Trees → Option Extent
  extent_among at none = None
  extent_among at (both first others) = option_or (option_or (own_extent at first) (extent_inside at first)) (extent_among at others)

  pub extent_in_sources : ℕ → Binders → Option Extent
  extent_in_sources at none_bound = None
  extent_in_sources at (binder place source others) =
      option_or (option_or (own_extent at source) (extent_inside at source)) (extent_in_sources at others)

  pub extent_in_condition : ℕ → Condition → Option Extent
  extent_in_condition at always = None
  extent_in_condition at (only_where condition) = option_or (own_extent at condition) (extent_inside at condition)

-- that of an expression, or of the first form within it
abbrev pub extent_in : ℕ → Tree → Option Extent
extent_in at tree = option_or (own_extent at tree) (extent_inside at tree)

-- that of the first in the body of a function
abbrev pub extent_in_declaration : ℕ → DeclarationTree → Option Extent
extent_in_declaration at (declares_input typed) = None
extent_in_declaration at (declares_function place parameters result body) = extent_in at body

abbrev pub extent_in_declarations : ℕ → List DeclarationTree → Option Extent
extent_in_declarations at [] = None
extent_in_declarations at (first ∷ others) = option_or (extent_in_declaration at first) (extent_in_declarations at others)

-- where no form keeps the offset, it is that of the word there
abbrev pub or_word : ℕ → Option Extent → Extent
or_word at None = record { first = at; last = at }
or_word at (Some extent) = extent

abbrev pub extent_at : Program → ℕ → Extent
extent_at program at =
    or_word at (option_or (extent_in at (tree_of program.expr)) (extent_in_declarations at (map declaration_of program.declarations.items)))

-- how many brackets are open after a byte, where so many were before it
abbrev pub opens : ℕ → Bool
opens byte = byte == 40 || byte == 91 || byte == 123

abbrev pub closes : ℕ → Bool
closes byte = byte == 41 || byte == 93 || byte == 125

abbrev pub depth_after : ℕ → ℕ → ℕ
depth_after depth byte = if opens byte then depth + 1 else if closes byte then depth - 1 else depth

-- the length of the shortest beginning of a text that has so many bytes and leaves no bracket open
abbrev pub is_closed : (depth least : ℕ) → Bool
is_closed depth least = depth == 0 && least == 0

abbrev pub closed_len : (depth least : ℕ) → List ℕ → ℕ
closed_len depth least [] = 0
closed_len depth least (byte ∷ bytes) =
    if is_closed depth least then 0 else 1 + closed_len (depth_after depth byte) (least - 1) bytes

-- where the word at an offset ends
abbrev pub word_end : List ℕ → ℕ → ℕ
word_end text at = at + prefix_len is_word (drop at text)

-- from the first word to the end of the last, and on until no bracket of it is open
abbrev pub piece_of : List ℕ → Extent → Span
piece_of text extent =
    record { at = extent.first; len = closed_len 0 (word_end text extent.last - extent.first) (drop extent.first text) }

-- the form that a node comes from, as the first of its nodes
abbrev pub drawn_form : Program → DrawnNode → DrawnForm
drawn_form program node =
    record { at = node.at; first = node.number; piece = piece_of program.text.items (extent_at program node.at) }

-- whether the outermost form keeps the offset, or begins there
abbrev pub is_outermost : Tree → ℕ → Bool
is_outermost tree at = offset tree == at || first_offset tree == at

abbrev pub has_form : List DrawnForm → ℕ → Bool
has_form forms at = list_any (λ form. form.at == at) forms

-- the forms that nodes come from, each once, but for the outermost one
abbrev pub one_more_form : Program → List DrawnForm → DrawnNode → List DrawnForm
one_more_form program forms node =
    if is_outermost (tree_of program.expr) node.at || has_form forms node.at then forms else forms ++ drawn_form program node ∷ []

abbrev pub forms_of : Program → List DrawnNode → List DrawnForm
forms_of program nodes = fold (one_more_form program) [] nodes

-- a drawing has the forms that its nodes come from
abbrev pub HasForms : Program → Drawing → Type 0
HasForms program drawing = drawing.forms.items ≡ forms_of program drawing.nodes.items
