-- What forms evaluate to, by their parts as the evaluator is handed them.
use Rattle.std.specs.Prelude.{◌∷◌, ℕ, List, map, Result}
use Rattle.snesl_data.specs.declared.datum.Datum.{Datum}
use Rattle.snesl_data.specs.Values.{Value, a_pair, value_of}
use Rattle.snesl_values.specs.declared.environment.Inputs.{Inputs}
use Rattle.snesl_values.specs.Inputs.{environment_of}
use Rattle.snesl_grammar.specs.declared.program.Program.{Program}
use Rattle.snesl_grammar.specs.View.{program_of}
use Rattle.snesl_grammar.specs.declared.tree.declaration.Declaration.{Declaration}
use Rattle.snesl_grammar.specs.declared.tree.declaration.Function.{Function}
use Rattle.snesl_grammar.specs.declared.tree.expr.Expr.{Expr}
use Rattle.snesl_grammar.specs.declared.tree.operator.Builtin.{Builtin}
use Rattle.snesl_grammar.specs.declared.tree.operator.Operator.{Operator}
use Rattle.snesl_grammar.specs.declared.tree.operator.Prefix.{Prefix}
use Rattle.snesl_grammar.specs.declared.tree.span.Span.{Span}
use Rattle.snesl_grammar.specs.tree.Spelling.{spelling}
use Rattle.snesl_grammar.specs.tree.Tree.{Tree, apply, binary, binding, call, choice, filter, prefix}
use Rattle.snesl_grammar.specs.tree.View.{tree_of, trees_of}
use Rattle.snesl_evaluation.specs.declared.halt.Halt.{Halt}
use Rattle.snesl_evaluation.specs.declared.scope.ProgramContext.{ProgramContext}
use Rattle.snesl_evaluation.specs.declared.scope.Scope.{Scope}
use Rattle.snesl_evaluation.specs.Answer.{Answer, gives, go}
use Rattle.snesl_evaluation.specs.Builtins.{seq_answer}
use Rattle.snesl_evaluation.specs.Eval.{eval, program_value}
use Rattle.snesl_evaluation.specs.Results.{Answers}
use Rattle.snesl_evaluation.specs.Scopes.{calls_in, entered, environment_in, eval_in, kept_in}

-- an operator between two operands
abbrev pub binary_form : ℕ → Operator → Expr → Expr → Tree
binary_form at operator left right = binary at operator (tree_of left) (tree_of right)

-- an operator before its operand
abbrev pub prefix_form : ℕ → Prefix → Expr → Tree
prefix_form at operator operand = prefix at operator (tree_of operand)

-- a body where a name has the value of another expression
abbrev pub let_form : Span → Expr → Expr → Tree
let_form name value body = binding name.at name (tree_of value) (tree_of body)

-- one of two expressions, as a condition says
abbrev pub if_form : ℕ → Expr → Expr → Expr → Tree
if_form at condition positive negative = choice at (tree_of condition) (tree_of positive) (tree_of negative)

-- a built-in function at arguments
abbrev pub call_form : ℕ → Builtin → List Expr → Tree
call_form at function arguments = call at function (trees_of arguments)

-- a declared function at arguments
abbrev pub apply_form : Span → List Expr → Tree
apply_form name arguments = apply name (trees_of arguments)

-- an item where a condition is true
abbrev pub filter_form : ℕ → Expr → Expr → Tree
filter_form at item condition = filter at (tree_of item) (tree_of condition)

-- the result is the answer of an expression there
abbrev pub EvaluatesTo : ProgramContext → Scope → Tree → Result Datum Halt → Type 0
EvaluatesTo context scope tree result = Answers value_of result (eval_in context scope tree)

-- the pair of the answers of two expressions there
abbrev pub pair_in : ProgramContext → Scope → Expr → Expr → Answer Value
pair_in context scope first second = go (eval_in context scope (tree_of first)) (λ v. go (eval_in context scope (tree_of second)) (λ w. gives (a_pair v w)))

-- the sequence of an item where its condition is true
abbrev pub filter_in : ProgramContext → Scope → ℕ → Expr → Expr → Answer Value
filter_in context scope at item condition = seq_answer (kept_in context scope at item condition)

-- the answer of a body there where a name has this value
abbrev pub bound_in : ProgramContext → Scope → Span → Datum → Expr → Answer Value
bound_in context scope name datum body =
    eval context.dialect (tree_of body) context.text.now (calls_in context) ((spelling context.text.now name, value_of datum) ∷ environment_in context.text.now scope)

-- the answer of a call by name
abbrev pub called_in : ProgramContext → Span → List Datum → Answer Value
called_in context name values = calls_in context name.at (spelling context.text.now name) (map value_of values)

-- the answer of a function after these declarations, in this dialect and text
abbrev pub entered_in : ProgramContext → ℕ → Function → List Declaration → List Datum → Answer Value
entered_in context at function earlier values = entered context.dialect context.text.now at function earlier (map value_of values)

-- the answer of a program at inputs
abbrev pub program_answer : Program → Inputs → Answer Value
program_answer program inputs = program_value program.text.items (program_of program) (environment_of inputs)
