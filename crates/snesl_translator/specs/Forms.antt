-- What calls of the translator add, form by form.
use Rattle.std.specs.Prelude.{ℕ, List, ◌++◌, map, Result, Vec}
use Rattle.std.specs.Global.{Global}
use Rattle.snesl_data.specs.declared.refusal.Refusal.{Refusal}
use Rattle.snesl_grammar.specs.tree.Spelling.{spelling}
use Rattle.snesl_grammar.specs.tree.Tree.{Tree, always, apply, binary, binding, call, choice, each, filter, literal, only_where, pair, prefix}
use Rattle.snesl_grammar.specs.tree.View.{binders_of, tree_of, trees_of}
use Rattle.snesl_grammar.specs.declared.tree.declaration.Declaration.{Declaration}
use Rattle.snesl_grammar.specs.declared.tree.declaration.Function.{Function}
use Rattle.snesl_grammar.specs.declared.tree.expr.Binder.{Binder}
use Rattle.snesl_grammar.specs.declared.tree.expr.Expr.{Expr}
use Rattle.snesl_grammar.specs.declared.tree.operator.Builtin.{Builtin}
use Rattle.snesl_grammar.specs.declared.tree.operator.Operator.{Operator}
use Rattle.snesl_grammar.specs.declared.tree.operator.Prefix.{Prefix}
use Rattle.snesl_grammar.specs.declared.tree.operator.Prefix.TheVariants.{Not}
use Rattle.snesl_grammar.specs.declared.tree.span.Span.{Span}
use Rattle.snesl_translation.specs.Wires.{stream_of}
use Rattle.snesl_translation.specs.Makings.{and_then}
use Rattle.snesl_translation.specs.Translation.{prefix_streams, tr}
use Rattle.snesl_translator.specs.steps.Added.{Adds}
use Rattle.snesl_translator.specs.steps.Views.{bindings_of, dialect_of_steps, next_in, wires_of}
use Rattle.snesl_translator.specs.declared.steps.steps.Steps.{Steps}
use Rattle.snesl_translator.specs.declared.steps.wires.Binding.{Binding}
use Rattle.snesl_translator.specs.declared.steps.wires.Wires.{Wires as WiresData}
use Rattle.snesl_translator.specs.scopes.Scopes.{bound_of}
use Rattle.snesl_translator.specs.declared.scopes.scope.Scope.{Scope}
use Rattle.snesl_translator.specs.declared.translator.ProgramContext.{ProgramContext}
use Rattle.snesl_translator.specs.declared.rows.Rows.{Rows}
use Rattle.snesl_translator.specs.Called.{entered}
use Rattle.snesl_translator.specs.Rows.{rows_of}
use Rattle.snesl_translator.specs.Translated.{all_in, binders_in, bodies_in, body_in, each_behind, filtered_in, further_in, joined, single_in, translated, where_after, where_in}

-- the steps of an expression were added, and the result is its streams; or it was refused, as `Adds` says; and so it is with each below
abbrev pub Translates : (old new : Steps) → ProgramContext → Scope → Tree → ℕ → Result WiresData Refusal → Type 0
Translates old new context scope tree control result = Adds wires_of old new (translated old context scope tree control) result

-- an operator between two operands, and one before its operand
abbrev pub Combines : (old new : Steps) → ProgramContext → Scope → ℕ → Operator → (left right : Expr) → ℕ → Result WiresData Refusal → Type 0
Combines old new context scope at operator left right control result =
    Translates old new context scope (binary at operator (tree_of left) (tree_of right)) control result

abbrev pub Applies : (old new : Steps) → ProgramContext → Scope → ℕ → Prefix → Expr → ℕ → Result WiresData Refusal → Type 0
Applies old new context scope at operator operand control result =
    Translates old new context scope (prefix at operator (tree_of operand)) control result

-- a pair
abbrev pub PairsUp : (old new : Steps) → ProgramContext → Scope → ℕ → (first second : Expr) → ℕ → Result WiresData Refusal → Type 0
PairsUp old new context scope at first second control result =
    Translates old new context scope (pair at (tree_of first) (tree_of second)) control result

-- a body where a name stands for a value
abbrev pub Lets : (old new : Steps) → ProgramContext → Scope → ℕ → Span → (value body : Expr) → ℕ → Result WiresData Refusal → Type 0
Lets old new context scope at name value body control result =
    Translates old new context scope (binding at name (tree_of value) (tree_of body)) control result

-- the one of two expressions that a condition says
abbrev pub Chooses : (old new : Steps) → ProgramContext → Scope → ℕ → (condition positive negative : Expr) → ℕ → Result WiresData Refusal → Type 0
Chooses old new context scope at condition positive negative control result =
    Translates old new context scope (choice at (tree_of condition) (tree_of positive) (tree_of negative)) control result

-- a body that sees these names before those of a scope
abbrev pub TranslatesIn : (old new : Steps) → ProgramContext → List Binding → Scope → Expr → ℕ → Result WiresData Refusal → Type 0
TranslatesIn old new context frame scope body control result =
    let dialect = dialect_of_steps old in
    Adds wires_of old new
    (tr dialect context.text.now (bodies_in dialect context) (tree_of body) (bindings_of frame ++ bound_of scope) control (next_in old)) result

-- an item where these truth values are true
abbrev pub Filters : (old new : Steps) → ProgramContext → Scope → ℕ → Expr → ℕ → Result WiresData Refusal → Type 0
Filters old new context scope at item truths result =
    Adds wires_of old new (filtered_in (dialect_of_steps old) context scope at (tree_of item) truths (next_in old)) result

-- one where those of a condition are false
abbrev pub FiltersNot : (old new : Steps) → ProgramContext → Scope → ℕ → Expr → WiresData → Result WiresData Refusal → Type 0
FiltersNot old new context scope at item condition result =
    let dialect = dialect_of_steps old in
    Adds wires_of old new
    (and_then (prefix_streams dialect at Not (wires_of condition) (next_in old)) (λ e k. filtered_in dialect context scope at (tree_of item) (stream_of e) k)) result

-- one where true stands
abbrev pub Singles : (old new : Steps) → ProgramContext → Scope → ℕ → Expr → ℕ → Result WiresData Refusal → Type 0
Singles old new context scope at item control result =
    Adds wires_of old new (single_in (dialect_of_steps old) context scope at (tree_of item) control (next_in old)) result

-- one where a condition is true
abbrev pub Sifts : (old new : Steps) → ProgramContext → Scope → ℕ → (item condition : Expr) → ℕ → Result WiresData Refusal → Type 0
Sifts old new context scope at item condition control result =
    Translates old new context scope (filter at (tree_of item) (tree_of condition)) control result

-- a built-in function at arguments, and a declared one
abbrev pub Uses : (old new : Steps) → ProgramContext → Scope → ℕ → Builtin → List Expr → ℕ → Result WiresData Refusal → Type 0
Uses old new context scope at function arguments control result =
    Translates old new context scope (call at function (trees_of arguments)) control result

abbrev pub Invokes : (old new : Steps) → ProgramContext → Scope → Span → List Expr → ℕ → Result WiresData Refusal → Type 0
Invokes old new context scope function arguments control result =
    Translates old new context scope (apply function (trees_of arguments)) control result

-- the function of a name at the streams of its arguments, and a function that was found, with the declarations before it
abbrev pub CallsNamed : (old new : Steps) → ProgramContext → Span → List WiresData → ℕ → Result WiresData Refusal → Type 0
CallsNamed old new context name arguments control result =
    Adds wires_of old new
    (bodies_in (dialect_of_steps old) context name.at (spelling context.text.now name) (map wires_of arguments) control (next_in old)) result

abbrev pub Enters : (old new : Steps) → ProgramContext → Function → List Declaration → List WiresData → ℕ → Result WiresData Refusal → Type 0
Enters old new context function earlier wires control result =
    Adds wires_of old new (entered (dialect_of_steps old) context.text.now function earlier (map wires_of wires) control (next_in old)) result

-- a literal, and a sequence with further items after it
abbrev pub TranslatesLiteral : (old new : Steps) → ProgramContext → Scope → ℕ → List Expr → ℕ → Result WiresData Refusal → Type 0
TranslatesLiteral old new context scope at items control result = Translates old new context scope (literal at (trees_of items)) control result

abbrev pub Extends : (old new : Steps) → ProgramContext → Scope → ℕ → WiresData → List Expr → ℕ → Result WiresData Refusal → Type 0
Extends old new context scope at sequence items control result =
    Adds wires_of old new (further_in (dialect_of_steps old) context scope at (wires_of sequence) (trees_of items) control (next_in old)) result

-- a comprehension with no condition, and what comes of it after its sources
abbrev pub Repeats : (old new : Steps) → ProgramContext → Scope → ℕ → Expr → List Binder → ℕ → Result WiresData Refusal → Type 0
Repeats old new context scope at body binders control result =
    Translates old new context scope (each at (tree_of body) (binders_of binders) always) control result

abbrev pub RepeatsOver : (old new : Steps) → ProgramContext → Scope → ℕ → List Binding → Expr → List Binder → Result WiresData Refusal → Type 0
RepeatsOver old new context scope at sources body binders result =
    Adds wires_of old new
    (each_behind (dialect_of_steps old) context scope at (bindings_of sources) (tree_of body) (binders_of binders) (next_in old)) result

-- one with a condition, and what comes of it after its sources
abbrev pub RepeatsWhere : (old new : Steps) → ProgramContext → Scope → ℕ → Expr → List Binder → Expr → ℕ → Result WiresData Refusal → Type 0
RepeatsWhere old new context scope at body binders condition control result =
    Translates old new context scope (each at (tree_of body) (binders_of binders) (only_where (tree_of condition))) control result

abbrev pub SiftsOver : (old new : Steps) → ProgramContext → Scope → ℕ → List Binding → Expr → List Binder → Expr → Result WiresData Refusal → Type 0
SiftsOver old new context scope at sources body binders condition result =
    Adds wires_of old new
    (where_after (dialect_of_steps old) context scope at (bindings_of sources) (tree_of body) (tree_of condition) (binders_of binders) (next_in old)) result

-- arguments, and the sequences of binders
abbrev pub TranslatesAll : (old new : Steps) → ProgramContext → Scope → List Expr → ℕ → Result (Vec WiresData Global) Refusal → Type 0
TranslatesAll old new context scope exprs control result =
    Adds (λ us. map wires_of us.items) old new (all_in (dialect_of_steps old) context scope (trees_of exprs) control (next_in old)) result

abbrev pub TranslatesSources : (old new : Steps) → ProgramContext → Scope → List Binder → ℕ → Result (Vec Binding Global) Refusal → Type 0
TranslatesSources old new context scope binders control result =
    Adds (λ sources. bindings_of sources.items) old new
    (binders_in (dialect_of_steps old) context scope (binders_of binders) control (next_in old)) result

-- a body that sees rows, and one where a condition is true
abbrev pub TranslatesRows : (old new : Steps) → ProgramContext → Rows → Expr → Result WiresData Refusal → Type 0
TranslatesRows old new context rows body result =
    Adds wires_of old new (body_in (dialect_of_steps old) context (rows_of rows) (tree_of body) (next_in old)) result

abbrev pub SiftsRows : (old new : Steps) → ProgramContext → Rows → ℕ → (body condition : Expr) → Result WiresData Refusal → Type 0
SiftsRows old new context rows at body condition result =
    Adds wires_of old new (where_in (dialect_of_steps old) context (rows_of rows) at (tree_of body) (tree_of condition) (next_in old)) result

-- of two sequences, of which one is empty, the element of the other
abbrev pub AddsOneOf : (old new : Steps) → ℕ → (left right : WiresData) → Result WiresData Refusal → Type 0
AddsOneOf old new at left right result = Adds wires_of old new (joined at (wires_of left) (wires_of right) (next_in old)) result
