-- What expressions and programs evaluate to.
use Rattle.std.specs.Prelude.{ℕ, List, [], ◌∷◌, ◌++◌, length, replicate, Bool, true, false, ◌==◌, if◌then◌else◌}
use Rattle.std.specs.List.{list_all}
use Rattle.std.specs.Str.{bytes_eq}
use Rattle.snesl_data.specs.declared.dialect.Dialect.{Dialect}
use Rattle.snesl_data.specs.declared.fault.FaultKind.TheVariants.{Length, Shape}
use Rattle.snesl_values.specs.Inputs.{Environment, value_in}
use Rattle.snesl_data.specs.Values.{Value, an_int, a_bool, a_pair}
use Rattle.snesl_grammar.specs.tree.Spelling.{spelling}
use Rattle.snesl_grammar.specs.tree.Tree.{Tree, Trees, Binders, integer, truth, name, binary, prefix, call, apply, group, pair, binding, choice, literal}
use Rattle.snesl_grammar.specs.tree.Tree.{filter, each, none, both, none_bound, binder, always, only_where, TypedName, DeclarationTree, declares_input}
use Rattle.snesl_grammar.specs.tree.Tree.{declares_function, ProgramTree}
use Rattle.snesl_evaluation.specs.Answer.{Answer, gives, faults, go, go_all, go_join, or_fault}
use Rattle.snesl_evaluation.specs.Builtins.{truth_at, items_at, seq_answer, prefix_answer, binary_answer, applied}

-- what declared functions mean: the answer of a call, by its offset, the name that is called and the arguments
abbrev pub Calls : Type 0
Calls = ℕ → List ℕ → List Value → Answer Value

-- the value of a name
abbrev pub value_named : ℕ → List ℕ → Environment → Answer Value
value_named at bytes environment = or_fault Shape at (value_in bytes environment)

-- an item where the condition is true, and else nothing
abbrev pub kept : Bool → Answer Value → Answer (List Value)
kept true answer = go answer (λ v. gives (v ∷ []))
kept false answer = gives []

-- the names of a comprehension, each beside the items that it stands for in turn
abbrev pub BoundItems : Type 0
BoundItems = List (List ℕ × List Value)

-- the length of the first column
abbrev pub height : BoundItems → ℕ
height [] = 0
height (column ∷ columns) = length column.1

-- a name at each of its items, before the entries of other names there
abbrev pub beside : List ℕ → List Value → List Environment → List Environment
beside bytes (v ∷ vs) (row ∷ rows) = ((bytes, v) ∷ row) ∷ beside bytes vs rows
beside bytes _ _ = []

-- what the names stand for, row by row
abbrev pub rows_of : ℕ → BoundItems → List Environment
rows_of n [] = replicate n []
rows_of n (column ∷ columns) = beside column.0 column.1 (rows_of n columns)

-- the same where all columns have one length, and else a fault
abbrev pub in_step : ℕ → BoundItems → Answer (List Environment)
in_step at columns =
    if list_all (λ column. length column.1 == height columns) columns then gives (rows_of (height columns) columns) else faults Length at

-- no function is declared
abbrev pub no_calls : Calls
no_calls at bytes values = faults Shape at

-- parameters with their values; as many values as parameters
abbrev pub parameters_with : ℕ → List ℕ → List TypedName → List Value → Answer Environment
parameters_with at text [] [] = gives []
parameters_with at text (parameter ∷ parameters) (v ∷ vs) =
    go (parameters_with at text parameters vs) (λ environment. gives ((spelling text parameter.place, v) ∷ environment))
parameters_with at text _ _ = faults Shape at

module _ (dialect : Dialect) where
  -- the value of an expression where calls mean these and names have these values, or its first fault; names are spelled as the text has them
  abbrev mutual
    pub eval : Tree → List ℕ → Calls → Environment → Answer Value
    eval (integer at value) text calls environment = gives (an_int value)
    eval (truth at value) text calls environment = gives (a_bool value)
    eval (name place) text calls environment = value_named place.at (spelling text place) environment
    eval (binary at operator left right) text calls environment =
        go (eval left text calls environment) (λ v. go (eval right text calls environment) (λ w. binary_answer dialect at operator v w))
    eval (prefix at operator operand) text calls environment = go (eval operand text calls environment) (prefix_answer dialect at operator)
    eval (call at function arguments) text calls environment = go (eval_all arguments text calls environment) (applied dialect at function)
    eval (apply function arguments) text calls environment =
        go (eval_all arguments text calls environment) (calls function.at (spelling text function))
    eval (group at inner) text calls environment = eval inner text calls environment
    eval (pair at first second) text calls environment =
        go (eval first text calls environment) (λ v. go (eval second text calls environment) (λ w. gives (a_pair v w)))
    eval (binding at place value body) text calls environment =
        go (eval value text calls environment) (λ v. eval body text calls ((spelling text place, v) ∷ environment))
    eval (choice at condition positive negative) text calls environment =
        go (eval condition text calls environment) (λ v.
        go (truth_at at v) (λ b.
        if b then eval positive text calls environment else eval negative text calls environment))
    eval (literal at items) text calls environment = seq_answer (eval_all items text calls environment)
    eval (filter at item condition) text calls environment =
        go (eval condition text calls environment) (λ v.
        go (truth_at at v) (λ b. seq_answer (kept b (eval item text calls environment))))
    -- the sequences once, then the body for each row in order
    eval (each at body binders always) text calls environment =
        go (eval_binders binders text calls environment) (λ columns.
        go (in_step at columns) (λ rows.
        seq_answer (go_all (λ row. eval body text calls (row ++ environment)) rows)))
    -- and before each body the condition
    eval (each at body binders (only_where condition)) text calls environment =
        go (eval_binders binders text calls environment) (λ columns.
        go (in_step at columns) (λ rows.
        seq_answer (go_join (λ row.
        go (eval condition text calls (row ++ environment)) (λ v.
        go (truth_at at v) (λ b. kept b (eval body text calls (row ++ environment))))) rows)))

    -- the values of arguments, or of items, from left to right
    pub eval_all : Trees → List ℕ → Calls → Environment → Answer (List Value)
    eval_all none text calls environment = gives []
    eval_all (both first others) text calls environment =
        go (eval first text calls environment) (λ v. go (eval_all others text calls environment) (λ vs. gives (v ∷ vs)))

    -- the columns of binders from left to right; none sees another's name
    pub eval_binders : Binders → List ℕ → Calls → Environment → Answer BoundItems
    eval_binders none_bound text calls environment = gives []
    eval_binders (binder place source others) text calls environment =
        go (eval source text calls environment) (λ v.
        go (items_at place.at v) (λ vs.
        go (eval_binders others text calls environment) (λ columns. gives ((spelling text place, vs) ∷ columns))))

  -- the answer of a function: its body's, which sees its parameters and these calls
  abbrev pub function_answer : ℕ → List ℕ → Calls → List TypedName → Tree → List Value → Answer Value
  function_answer at text calls parameters body values =
      go (parameters_with at text parameters values) (λ environment. eval body text calls environment)

  -- these calls and those of one more declaration; a function hides earlier ones of its name
  abbrev pub with_declaration : List ℕ → Calls → DeclarationTree → Calls
  with_declaration text calls (declares_input declared) at bytes values = calls at bytes values
  with_declaration text calls (declares_function place parameters result body) at bytes values =
      if bytes_eq bytes (spelling text place) then function_answer at text calls parameters body values else calls at bytes values

  -- these calls and those of declarations in order: the body of each function sees the calls before it
  abbrev pub calls_after : List ℕ → Calls → List DeclarationTree → Calls
  calls_after text calls [] = calls
  calls_after text calls (declaration ∷ others) = calls_after text (with_declaration text calls declaration) others

  -- the calls that declarations mean
  abbrev pub calls_of : List ℕ → List DeclarationTree → Calls
  calls_of text declarations = calls_after text no_calls declarations

-- the value of a program where its inputs have these values, or its first fault
abbrev pub program_value : List ℕ → ProgramTree → Environment → Answer Value
program_value text program inputs = eval program.dialect program.expression text (calls_of program.dialect text program.declarations) inputs
