-- What names and calls mean where the evaluator stands.
use Rattle.std.specs.Prelude.{◌≡◌, ℕ, suc, ◌+◌, ◌==◌, Bool, if◌then◌else◌, List, [], ◌∷◌, ◌++◌, map, length, zip, filter_map, Option, None, option_map, slice_get}
use Rattle.std.specs.Borrow.{Bor}
use Rattle.std.specs.List.{list_all}
use Rattle.std.specs.Str.{bytes_eq}
use Rattle.snesl_data.specs.declared.datum.Datum.{Datum}
use Rattle.snesl_data.specs.declared.dialect.Dialect.{Dialect}
use Rattle.snesl_data.specs.declared.fault.FaultKind.TheVariants.{Shape}
use Rattle.snesl_values.specs.Inputs.{Environment}
use Rattle.snesl_data.specs.Values.{Value, value_of}
use Rattle.snesl_grammar.specs.declared.tree.declaration.Declaration.{Declaration}
use Rattle.snesl_grammar.specs.declared.tree.declaration.Declaration.TheVariants.{Input, Function as FunctionDeclaration}
use Rattle.snesl_grammar.specs.declared.tree.declaration.Function.{Function}
use Rattle.snesl_grammar.specs.declared.tree.declaration.Typing.{Typing}
use Rattle.snesl_grammar.specs.declared.tree.expr.Expr.{Expr, size-Expr}
use Rattle.snesl_grammar.specs.declared.tree.span.Span.{Span}
use Rattle.snesl_grammar.specs.tree.Spelling.{spelling}
use Rattle.snesl_grammar.specs.tree.Tree.{Tree, Trees, Binders}
use Rattle.snesl_grammar.specs.tree.View.{declaration_of, tree_of, typed_of}
use Rattle.snesl_evaluation.specs.declared.scope.Column.{Column}
use Rattle.snesl_evaluation.specs.declared.scope.Scope.{Scope}
use Rattle.snesl_evaluation.specs.declared.scope.Scope.TheVariants.{Inputs, Parameters, Bound', Row'}
use Rattle.snesl_evaluation.specs.declared.scope.ProgramContext.{ProgramContext}
use Rattle.snesl_evaluation.specs.Answer.{Answer, faults, go, go_all, go_join}
use Rattle.snesl_evaluation.specs.Entries.{entry_of}
use Rattle.snesl_evaluation.specs.Builtins.{truth_at}
use Rattle.snesl_evaluation.specs.Eval.{Calls, BoundItems, calls_of, eval, eval_all, eval_binders, function_answer, kept, value_named}

-- a name, spelled as the text has it, beside its items
abbrev pub bound_items_of : List ℕ → Column → List ℕ × List Value
bound_items_of text column = (spelling text column.name, map value_of column.items.items)

-- names beside their items
abbrev pub named_items : List ℕ → List Column → BoundItems
named_items text columns = map (bound_items_of text) columns

-- the item of a column at an index, where it has the name
abbrev pub item_named : List ℕ → ℕ → List ℕ × List Value → Option Value
item_named name index column = if bytes_eq name column.0 then slice_get column.1 index else None

-- what the names stand for in the row of this index
abbrev pub names_at : ℕ → BoundItems → Environment
names_at index columns = filter_map (λ column. option_map (λ v. (column.0, v)) (slice_get column.1 index)) columns

-- what the names of columns stand for there
abbrev pub row_names : List ℕ → List Column → ℕ → Environment
row_names text columns index = names_at index (named_items text columns)

-- the names of parameters, spelled as the text has them
abbrev pub names_of : List ℕ → List Typing → List (List ℕ)
names_of text parameters = map (λ parameter. spelling text parameter.name) parameters

-- parameters with their values
abbrev pub named_values : List ℕ → List Typing → List Datum → Environment
named_values text parameters values = zip (names_of text parameters) (map value_of values)

-- the values of the names in scope, the innermost first
abbrev pub environment_in : List ℕ → Scope → Environment
environment_in text (Inputs entries) = map entry_of entries.now
environment_in text (Parameters parameters values) = named_values text parameters.now values.now
environment_in text (Bound' name value p outer) = (spelling text name, value_of value.now) ∷ environment_in text outer
environment_in text (Row' columns index p outer) = row_names text columns.now index ++ environment_in text outer

-- the value of a name there
abbrev pub named_in : List ℕ → Scope → Span → Answer Value
named_in text scope name = value_named name.at (spelling text name) (environment_in text scope)

-- the calls of the functions that may be called
abbrev pub calls_in : ProgramContext → Calls
calls_in context = calls_of context.dialect context.text.now (map declaration_of context.functions.now)

-- the answer of an expression there
abbrev pub eval_in : ProgramContext → Scope → Tree → Answer Value
eval_in context scope tree = eval context.dialect tree context.text.now (calls_in context) (environment_in context.text.now scope)

-- the answers of expressions there
abbrev pub all_in : ProgramContext → Scope → Trees → Answer (List Value)
all_in context scope trees = eval_all context.dialect trees context.text.now (calls_in context) (environment_in context.text.now scope)

-- the columns of binders there
abbrev pub binders_in : ProgramContext → Scope → Binders → Answer BoundItems
binders_in context scope binders = eval_binders context.dialect binders context.text.now (calls_in context) (environment_in context.text.now scope)

-- an item where its condition is true, with these entries before the names there
abbrev pub kept_at : ProgramContext → Environment → ℕ → Tree → Tree → Answer (List Value)
kept_at context environment at item condition =
    go (eval context.dialect condition context.text.now (calls_in context) environment) (λ v.
    go (truth_at at v) (λ b. kept b (eval context.dialect item context.text.now (calls_in context) environment)))

-- and with no more than the names there
abbrev pub kept_in : ProgramContext → Scope → ℕ → Expr → Expr → Answer (List Value)
kept_in context scope at item condition = kept_at context (environment_in context.text.now scope) at (tree_of item) (tree_of condition)

-- the values of a comprehension's body at rows before the names there
abbrev pub each_in : ProgramContext → Scope → Tree → List Environment → Answer (List Value)
each_in context scope body rows =
    go_all (λ row. eval context.dialect body context.text.now (calls_in context) (row ++ environment_in context.text.now scope)) rows

-- and at those rows where the condition is true
abbrev pub where_in : ProgramContext → Scope → ℕ → Tree → Tree → List Environment → Answer (List Value)
where_in context scope at body condition rows =
    go_join (λ row. kept_at context (row ++ environment_in context.text.now scope) at body condition) rows

-- the length of the first column
abbrev pub first_height : List Column → ℕ
first_height [] = 0
first_height (column ∷ columns) = length column.items.items

-- whether all columns have this length
abbrev pub are_level : ℕ → List Column → Bool
are_level n columns = list_all (λ column. length column.items.items == n) columns

-- the answer of a function after these declarations
abbrev pub entered : Dialect → List ℕ → ℕ → Function → List Declaration → List Value → Answer Value
entered dialect text at function earlier values =
    function_answer dialect at text (calls_of dialect text (map declaration_of earlier)) (map typed_of function.parameters.items) (tree_of function.body) values

-- calls of this name are, in each dialect, calls of this function, which stands after these declarations
abbrev pub IsCalled : List ℕ → List Declaration → List ℕ → Function → List Declaration → Type 0
IsCalled text declarations name function earlier =
    (dialect : Dialect) (at : ℕ) (values : List Value)
    → calls_of dialect text (map declaration_of declarations) at name values ≡ entered dialect text at function earlier values

-- calls of this name are those of the function that is found, after the declarations beside it
abbrev pub IsFoundBy : List ℕ → List Declaration → List ℕ → Bor Function × Bor (List Declaration) → Type 0
IsFoundBy text declarations name found = IsCalled text declarations name found.0.now found.1.now

-- calls of this name have no function
abbrev pub IsUnknown : List ℕ → List Declaration → List ℕ → Type 0
IsUnknown text declarations name =
    (dialect : Dialect) (at : ℕ) (values : List Value) → calls_of dialect text (map declaration_of declarations) at name values ≡ faults Shape at

-- more than the depth of the function's body
abbrev pub weight_of : Function → ℕ
weight_of function = suc (size-Expr function.body)

-- the weights of all functions
abbrev pub weight : List Declaration → ℕ
weight [] = 0
weight (Input typing ∷ declarations) = weight declarations
weight (FunctionDeclaration function ∷ declarations) = weight_of function + weight declarations

-- the weight of a function and of those before it
abbrev pub weight_with : Bor Function × Bor (List Declaration) → ℕ
weight_with found = weight_of found.0.now + weight found.1.now
