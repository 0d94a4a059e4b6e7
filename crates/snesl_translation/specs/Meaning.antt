-- What a translation means: at any list of instances at once, its steps go where the answers at the instances do.
use Rattle.std.specs.Prelude.{◌≡◌, ℕ, true, List, [], ◌∷◌, length, map, replicate, zip, Option, Some}
use Rattle.snesl_data.specs.Types.{Ty}
use Rattle.snesl_data.specs.Values.{Value}
use Rattle.snesl_values.specs.Inputs.{Environment, value_in}
use Rattle.snesl_types.specs.Contexts.{open_to, Context, found}
use Rattle.flow_base.specs.Columns.{Columns}
use Rattle.flow_nodes.specs.functions.Lists.{each}
use Rattle.snesl_translation.specs.Wires.{Wires, Bound}
use Rattle.snesl_translation.specs.Makings.{Making}
use Rattle.snesl_translation.specs.FreeNames.{Names, is_among}
use Rattle.snesl_translation.specs.Translation.{wires_named, is_bound}
use Rattle.snesl_translation.specs.Carrying.{Carries, Controls, GoesTo}

-- each of these names that may be used is bound, and its streams carry the values that it has at the instances
abbrev pub Bears : Columns → Bound → Names → Context → List Environment → Type 0
Bears streams bound names context environments =
    (bytes : List ℕ) (t : Ty) → is_among bytes names ≡ true → found bytes context ≡ Some (open_to t)
    → (values : List Value) × (each (value_in bytes) environments ≡ Some values) × Carries streams (wires_named bytes bound) t values
    × (is_bound bytes bound ≡ true)

-- what is translated so has this value where names have these values, and takes these names from outside: wherever streams
-- bear their values at some instances, and there is a Unit for each of these, its steps go where the values do
abbrev pub IsTranslation : (Bound → (control next : ℕ) → Making Wires) → (Environment → Option Value) → Names → Context → Ty → Type 0
IsTranslation translated value names context t =
    (streams : Columns) (bound : Bound) (control : ℕ) (environments : List Environment)
    → Bears streams bound names context environments → Controls streams control (length environments)
    → GoesTo streams t (translated bound control (length streams)) (each value environments)

-- the streams of arguments carry these rows of values, one row for each instance
abbrev pub AllCarry : Columns → List Wires → List Ty → List (List Value) → Type 0
AllCarry streams [] [] rows = rows ≡ replicate (length rows) []
AllCarry streams (u ∷ us) (t ∷ ts) rows =
    (values : List Value) × (others : List (List Value)) × (rows ≡ map (λ p. p.0 ∷ p.1) (zip values others)) × (length values ≡ length others)
    × Carries streams u t values × AllCarry streams us ts others
AllCarry streams _ _ rows = ⊥
