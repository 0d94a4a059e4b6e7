-- Arguments, items and binders as lists.
use Rattle.std.proofs.Common.{◌≡◌, ℕ, Vec, Global, refl, ap, ◌∙◌}
use mathlib.Core.Former.{Count}
use Rattle.snesl_grammar.specs.declared.tree.expr.Expr.{Expr, Call, Apply, Literal, Call', Apply', Literal', Row_of-Expr, end_of-Expr, more_of-Expr}
use Rattle.snesl_grammar.specs.declared.tree.expr.Expr.{items-the_row-Expr, Row_of-Binder, end_of-Binder, more_of-Binder, items-the_row-Binder}
use Rattle.snesl_grammar.specs.declared.tree.expr.Expr.{items_hidden-the_row-Expr-0}
use Rattle.snesl_grammar.specs.declared.tree.expr.Expr.TheBlock.{hidden-the_row-Binder-1, items_hidden-the_row-Binder-1}
use Rattle.snesl_grammar.specs.declared.tree.expr.Binder.{Binder}
use Rattle.snesl_grammar.specs.declared.tree.operator.Builtin.{Builtin}
use Rattle.snesl_grammar.specs.declared.tree.span.Span.{Span}
use Rattle.snesl_grammar.specs.tree.Tree.{call, apply, literal, both, binder}
use Rattle.snesl_grammar.specs.tree.View.{tree_of, row_of, trees_of, binder_row, binders_of}

row_listed : (n : Count) (row : Row_of-Expr n) → row_of row ≡ trees_of (items-the_row-Expr n row)
row_listed n end_of-Expr = refl
row_listed n (more_of-Expr first others) = ap (both (tree_of first)) (row_listed _ others)

binders_listed : (n : Count) (row : Row_of-Binder n) → binder_row row ≡ binders_of (items-the_row-Binder n row)
binders_listed n end_of-Binder = refl
binders_listed n (more_of-Binder place source others) = ap (binder place (tree_of source)) (binders_listed _ others)

abbrev row_in : Expr → (n : Count) × Row_of-Expr n
row_in (Call' at function shape row) = (_, row)
row_in (Apply' function shape row) = (_, row)
row_in (Literal' at shape row) = (_, row)
row_in _ = (_, end_of-Expr)

pub tree_of-Call : (at : ℕ) (function : Builtin) (arguments : Vec Expr Global) → tree_of (Call at function arguments) ≡ call at function (trees_of arguments.items)
tree_of-Call at function arguments =
    let row = row_in (Call at function arguments) in
    ap (call at function) (row_listed row.0 row.1) ∙ ap (λ l. call at function (trees_of l)) (items_hidden-the_row-Expr-0 arguments)

pub tree_of-Apply : (function : Span) (arguments : Vec Expr Global) → tree_of (Apply function arguments) ≡ apply function (trees_of arguments.items)
tree_of-Apply function arguments =
    let row = row_in (Apply function arguments) in
    ap (apply function) (row_listed row.0 row.1) ∙ ap (λ l. apply function (trees_of l)) (items_hidden-the_row-Expr-0 arguments)

pub tree_of-Literal : (at : ℕ) (items : Vec Expr Global) → tree_of (Literal at items) ≡ literal at (trees_of items.items)
tree_of-Literal at items =
    let row = row_in (Literal at items) in
    ap (literal at) (row_listed row.0 row.1) ∙ ap (λ l. literal at (trees_of l)) (items_hidden-the_row-Expr-0 items)

pub binders_row : (binders : Vec Binder Global) → binder_row (hidden-the_row-Binder-1 binders) ≡ binders_of binders.items
binders_row binders = binders_listed _ (hidden-the_row-Binder-1 binders) ∙ ap binders_of (items_hidden-the_row-Binder-1 binders)
