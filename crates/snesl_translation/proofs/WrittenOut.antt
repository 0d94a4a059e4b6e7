-- Literals have the steps of the forms that they stand for.
use Rattle.std.specs.Prelude.{◌≡◌, ℕ, List, refl}
use Rattle.snesl_data.specs.declared.dialect.Dialect.{Dialect}
use Rattle.snesl_grammar.specs.tree.Tree.{Tree, Trees, none, both}
use Rattle.snesl_grammar.specs.Expressions.{added}
use Rattle.snesl_translation.specs.Wires.{Wires, Bound}
use Rattle.snesl_translation.specs.Makings.{Making}
use Rattle.snesl_translation.specs.FreeNames.{free}
use Rattle.snesl_translation.specs.Translation.{Bodies, followed, single, tr, tr_further}
use Rattle.snesl_translation.specs.Literals.{OneItemSteps, LiteralSteps}

pub one_item_steps : OneItemSteps
one_item_steps at item dialect text calls bound control next = refl

module _ (dialect : Dialect) (text : List ℕ) (calls : Bodies) (at : ℕ) (bound : Bound) (control next : ℕ) where
  -- of further items and one more the last one is appended to all others
  further_added : (sequence : Bound → ℕ → ℕ → Making Wires) (others : Trees) (last : Tree)
      → tr_further dialect text calls at sequence (added others last) bound control next
      ≡ followed at (tr_further dialect text calls at sequence others) (free text last) (tr dialect text calls last) bound control next
  further_added sequence none last = refl
  further_added sequence (both item others) last = further_added (followed at sequence (free text item) (tr dialect text calls item)) others last

pub literal_steps : LiteralSteps
literal_steps at first others last dialect text calls bound control next =
    further_added dialect text calls at bound control next (single at (free text first) (tr dialect text calls first)) others last
