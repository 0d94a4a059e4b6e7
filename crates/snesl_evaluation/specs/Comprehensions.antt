-- What the parts of comprehensions answer.
use Rattle.std.specs.Prelude.{◌≡◌, ℕ, List, [], ◌∷◌, ◌++◌, map, Result, Vec}
use Rattle.std.specs.Global.{Global}
use Rattle.snesl_data.specs.declared.datum.Datum.{Datum}
use Rattle.snesl_data.specs.Values.{value_of}
use Rattle.snesl_grammar.specs.declared.tree.expr.Binder.{Binder}
use Rattle.snesl_grammar.specs.declared.tree.expr.Expr.{Expr}
use Rattle.snesl_grammar.specs.declared.tree.span.Span.{Span}
use Rattle.snesl_grammar.specs.tree.Spelling.{spelling}
use Rattle.snesl_grammar.specs.tree.View.{binders_of, tree_of}
use Rattle.snesl_evaluation.specs.declared.halt.Halt.{Halt}
use Rattle.snesl_evaluation.specs.declared.scope.Column.{Column}
use Rattle.snesl_evaluation.specs.declared.scope.ProgramContext.{ProgramContext}
use Rattle.snesl_evaluation.specs.declared.scope.Scope.{Scope}
use Rattle.snesl_evaluation.specs.Answer.{go}
use Rattle.snesl_evaluation.specs.Builtins.{seq_answer}
use Rattle.snesl_evaluation.specs.Data.{values_in}
use Rattle.snesl_evaluation.specs.Eval.{in_step, rows_of}
use Rattle.snesl_evaluation.specs.Results.{Answers}
use Rattle.snesl_evaluation.specs.Scopes.{binders_in, each_in, named_items, where_in}

-- the new columns are the old ones and a name beside its items
abbrev pub AddsColumn : List ℕ → Vec Column Global → Span → Vec Datum Global → Vec Column Global → Type 0
AddsColumn text old name items new =
    named_items text new.items ≡ named_items text old.items ++ (spelling text name, map value_of items.items) ∷ []

-- the result is the number of the rows in which the columns go in step
abbrev pub RowsInStep : List ℕ → ℕ → List Column → Result ℕ Halt → Type 0
RowsInStep text at columns result = Answers (λ n. rows_of n (named_items text columns)) result (in_step at (named_items text columns))

-- the result is the columns of binders there
abbrev pub ColumnsAre : ProgramContext → Scope → List Binder → Result (Vec Column Global) Halt → Type 0
ColumnsAre context scope binders result =
    Answers (λ columns. named_items context.text.now columns.items) result (binders_in context scope (binders_of binders))

-- the result is what a body gives at the rows of these columns
abbrev pub RowsGive : ProgramContext → Scope → Expr → ℕ → List Column → Result (Vec Datum Global) Halt → Type 0
RowsGive context scope body number columns result =
    Answers values_in result (each_in context scope (tree_of body) (rows_of number (named_items context.text.now columns)))

-- the same of those rows where a condition is true
abbrev pub RowsKeep : ProgramContext → Scope → ℕ → Expr → Expr → ℕ → List Column → Result (Vec Datum Global) Halt → Type 0
RowsKeep context scope at body condition number columns result =
    Answers values_in result (where_in context scope at (tree_of body) (tree_of condition) (rows_of number (named_items context.text.now columns)))

-- the result is the answer of a comprehension with no condition
abbrev pub GathersTo : ProgramContext → Scope → ℕ → List Binder → Expr → Result Datum Halt → Type 0
GathersTo context scope at binders body result =
    Answers value_of result (go (binders_in context scope (binders_of binders)) (λ columns.
    go (in_step at columns) (λ rows. seq_answer (each_in context scope (tree_of body) rows))))

-- and of one with a condition
abbrev pub SelectsTo : ProgramContext → Scope → ℕ → List Binder → Expr → Expr → Result Datum Halt → Type 0
SelectsTo context scope at binders body condition result =
    Answers value_of result (go (binders_in context scope (binders_of binders)) (λ columns.
    go (in_step at columns) (λ rows. seq_answer (where_in context scope at (tree_of body) (tree_of condition) rows))))
