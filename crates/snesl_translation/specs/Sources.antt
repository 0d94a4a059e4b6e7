-- The names and the sequences of a comprehension's sources.
use Rattle.std.specs.Prelude.{ℕ, List, [], ◌∷◌, map, zip}
use Rattle.snesl_data.specs.Values.{Value}
use Rattle.snesl_values.specs.Inputs.{InputDeclaration}
use Rattle.snesl_evaluation.specs.Eval.{BoundItems}
use Rattle.snesl_translation.specs.FreeNames.{Names, without}

-- names but for those of these items
abbrev pub without_items : List InputDeclaration → Names → Names
without_items [] names = names
without_items (item ∷ items) names = without item.0 (without_items items names)

-- a name with one more sequence at each instance
abbrev pub with_sequences : List ℕ → List (List Value) → List BoundItems → List BoundItems
with_sequences name groups all = map (λ p. (name, p.0) ∷ p.1) (zip groups all)
