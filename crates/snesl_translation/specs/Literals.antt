-- Literals are translated as the forms that they stand for.
use Rattle.std.specs.Prelude.{◌≡◌, ℕ, List, true}
use Rattle.snesl_data.specs.declared.dialect.Dialect.{Dialect}
use Rattle.snesl_grammar.specs.declared.tree.operator.Operator.TheVariants.{Append}
use Rattle.snesl_grammar.specs.tree.Tree.{Tree, Trees, truth, binary, literal, filter, none, both}
use Rattle.snesl_grammar.specs.Expressions.{added}
use Rattle.snesl_translation.specs.Wires.{Bound}
use Rattle.snesl_translation.specs.Translation.{Bodies, tr}

-- two expressions that have the same steps wherever they stand
abbrev pub HaveTheSameSteps : Tree → Tree → Type 0
HaveTheSameSteps one other =
    (dialect : Dialect) (text : List ℕ) (calls : Bodies) (bound : Bound) (control next : ℕ)
    → tr dialect text calls one bound control next ≡ tr dialect text calls other bound control next

-- `{e}` has those of `{e | true}`
abbrev pub OneItemSteps : Type 0
OneItemSteps = (at : ℕ) (item : Tree) → HaveTheSameSteps (literal at (both item none)) (filter at item (truth at true))

-- `{e, .., f}` has those of `{e, ..} ++ {f | true}`
abbrev pub LiteralSteps : Type 0
LiteralSteps = (at : ℕ) (first : Tree) (others : Trees) (last : Tree)
    → HaveTheSameSteps (literal at (added (both first others) last)) (binary at Append (literal at (both first others)) (filter at last (truth at true)))
