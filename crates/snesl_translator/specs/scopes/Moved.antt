-- What names stand for in a part of a program that runs more often or less often, one binding after another.
use Rattle.std.specs.Prelude.{ℕ, List, [], ◌∷◌, ◌++◌, if◌then◌else◌, Result, Vec}
use Rattle.std.specs.Global.{Global}
use Rattle.snesl_data.specs.declared.refusal.Refusal.{Refusal}
use Rattle.snesl_translation.specs.Wires.{Wires, Bound}
use Rattle.snesl_translation.specs.Makings.{Making, done, and_then}
use Rattle.snesl_translation.specs.FreeNames.{Names, is_among, without}
use Rattle.snesl_translation.specs.Moving.{all_moved, distributed, kept}
use Rattle.snesl_translator.specs.steps.Added.{Adds}
use Rattle.snesl_translator.specs.steps.Views.{binding_of, bindings_of, next_in}
use Rattle.snesl_translator.specs.declared.steps.steps.Steps.{Steps}
use Rattle.snesl_translator.specs.declared.steps.wires.Binding.{Binding}
use Rattle.snesl_translator.specs.scopes.Scopes.{bound_of, names_in}
use Rattle.snesl_translator.specs.declared.scopes.part.Part.{Part}
use Rattle.snesl_translator.specs.declared.scopes.scope.Scope.{Scope}
use Rattle.snesl_translator.specs.declared.scopes.moving.Movement.{Movement}
use Rattle.snesl_translator.specs.declared.scopes.moving.Movement.TheVariants.{Distribute, Keep}

-- a value that goes there so
abbrev pub moved_by : ℕ → Movement → Wires → ℕ → Making Wires
moved_by at (Distribute flags) = distributed at flags
moved_by at (Keep truths) = kept at truths

-- the names but for those that were moved
abbrev pub but_for : Bound → Names → Names
but_for [] names = names
but_for (entry ∷ moved) names = but_for moved (without entry.0 names)

-- one more, after those that were moved before, where it is among the names that are left
abbrev pub one_moved : (Wires → ℕ → Making Wires) → Names → List ℕ × Wires → Bound → ℕ → Making Bound
one_moved move names entry before next =
    if is_among entry.0 (but_for before names)
    then and_then (move entry.1 next) (λ u k. done (before ++ (entry.0, u) ∷ []) k)
    else done before next

-- each of these in turn
abbrev pub each_moved : (Wires → ℕ → Making Wires) → Names → Bound → Bound → ℕ → Making Bound
each_moved move names [] before next = done before next
each_moved move names (entry ∷ bound) before next =
    and_then (one_moved move names entry before next) (λ now k. each_moved move names bound now k)

-- the steps that move what a part takes from outside were added, and the result is what its names stand for then; or it was refused
abbrev pub MovesAll : (old new : Steps) → (Wires → ℕ → Making Wires) → Part → Scope → Result (Vec Binding Global) Refusal → Type 0
MovesAll old new move part scope result =
    Adds (λ moved. bindings_of moved.items) old new (all_moved move (names_in part) (bound_of scope) (next_in old)) result

-- so it is with these bindings, which come after those that were moved before; with all that are in scope; and with one
abbrev pub MovesIn : (old new : Steps) → ℕ → Movement → Part → List Binding → (before after : Vec Binding Global) → Result (Unit {0}) Refusal → Type 0
MovesIn old new at movement part bindings before after result =
    Adds (λ _. bindings_of after.items) old new
    (each_moved (moved_by at movement) (names_in part) (bindings_of bindings) (bindings_of before.items) (next_in old)) result

abbrev pub MovesScope : (old new : Steps) → ℕ → Movement → Part → Scope → (before after : Vec Binding Global) → Result (Unit {0}) Refusal → Type 0
MovesScope old new at movement part scope before after result =
    Adds (λ _. bindings_of after.items) old new
    (each_moved (moved_by at movement) (names_in part) (bound_of scope) (bindings_of before.items) (next_in old)) result

abbrev pub MovesOne : (old new : Steps) → ℕ → Movement → Part → Binding → (before after : Vec Binding Global) → Result (Unit {0}) Refusal → Type 0
MovesOne old new at movement part binding before after result =
    Adds (λ _. bindings_of after.items) old new
    (one_moved (moved_by at movement) (names_in part) (binding_of binding) (bindings_of before.items) (next_in old)) result
