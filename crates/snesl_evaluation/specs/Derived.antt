-- What derived forms mean.
use Rattle.std.specs.Prelude.{◌≡◌, ℕ, List, ◌∷◌, true}
use Rattle.snesl_data.specs.declared.dialect.Dialect.{Dialect}
use Rattle.snesl_values.specs.Inputs.{Environment}
use Rattle.snesl_data.specs.Values.{Value}
use Rattle.snesl_grammar.specs.declared.tree.operator.Builtin.TheVariants.{Concat, The}
use Rattle.snesl_grammar.specs.declared.tree.operator.Operator.TheVariants.{Append}
use Rattle.snesl_grammar.specs.declared.tree.operator.Prefix.TheVariants.{Not}
use Rattle.snesl_grammar.specs.declared.tree.span.Span.{Span}
use Rattle.snesl_grammar.specs.tree.Spelling.{spelling}
use Rattle.snesl_grammar.specs.tree.Tree.{Tree, Trees, Binders, truth, name, prefix, binary, call, binding, choice, literal, filter, each, none, both, always, only_where}
use Rattle.snesl_grammar.specs.Expressions.{added}
use Rattle.snesl_evaluation.specs.Eval.{Calls, eval}

-- two expressions that have one answer wherever they stand
abbrev pub MeanTheSame : Tree → Tree → Type 0
MeanTheSame one other = (dialect : Dialect) (text : List ℕ) (calls : Calls) (environment : Environment) → eval dialect one text calls environment ≡ eval dialect other text calls environment

-- an expression whose answer no value of this name changes
abbrev pub IsUnused : Span → Tree → Type 0
IsUnused place tree = (dialect : Dialect) (text : List ℕ) (calls : Calls) (environment : Environment) (v : Value) →
    eval dialect tree text calls ((spelling text place, v) ∷ environment) ≡ eval dialect tree text calls environment

-- `{e : .. | b}` means `concat({ {e | b} : .. })`
abbrev pub ConditionMeaning : Type 0
ConditionMeaning = (at : ℕ) (item condition : Tree) (binders : Binders)
    → MeanTheSame (each at item binders (only_where condition)) (call at Concat (both (each at (filter at item condition) binders always) none))

-- `{e}` means `{e | true}`
abbrev pub OneItemMeaning : Type 0
OneItemMeaning = (at : ℕ) (item : Tree) → MeanTheSame (literal at (both item none)) (filter at item (truth at true))

-- `{.., e}` means `{..} ++ {e | true}`: the items group to the left, as operands of `++` do
abbrev pub LiteralMeaning : Type 0
LiteralMeaning = (at : ℕ) (items : Trees) (last : Tree)
    → MeanTheSame (literal at (added items last)) (binary at Append (literal at items) (filter at last (truth at true)))

-- `if b then e else f` means `let t = b in the({e | t} ++ {f | not t})`, where e and f do not use t
abbrev pub ChoiceMeaning : Type 0
ChoiceMeaning = (at : ℕ) (t : Span) (condition positive negative : Tree) → IsUnused t positive → IsUnused t negative
    → MeanTheSame (choice at condition positive negative)
    (binding at t condition
    (call at The (both (binary at Append (filter at positive (name t)) (filter at negative (prefix at Not (name t)))) none)))
