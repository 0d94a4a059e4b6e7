-- What the steps of several expressions make: streams that carry a row of values for each instance.
use Rattle.std.specs.Prelude.{◌≡◌, ℕ, List, ◌++◌, length, Option, Some, None}
use Rattle.snesl_data.specs.Types.{Ty}
use Rattle.snesl_data.specs.Values.{Value}
use Rattle.snesl_values.specs.Inputs.{Environment}
use Rattle.snesl_types.specs.Contexts.{Context}
use Rattle.flow_base.specs.Columns.{Columns}
use Rattle.flow_nodes.specs.functions.Lists.{each}
use Rattle.flow_nodes.specs.plans.Plans.{run}
use Rattle.snesl_translation.specs.Wires.{Wires, Bound}
use Rattle.snesl_translation.specs.Makings.{Making}
use Rattle.snesl_translation.specs.FreeNames.{Names}
use Rattle.snesl_translation.specs.Carrying.{Controls}
use Rattle.snesl_translation.specs.Meaning.{Bears, AllCarry}

-- where there are rows, the steps make streams that carry these; where there are none, they do not run
abbrev pub GoAll : Columns → List Ty → Making (List Wires) → Option (List (List Value)) → Type 0
GoAll streams ts making (Some rows) =
    (more : Columns) × (run making.steps streams ≡ Some (streams ++ more)) × (making.next ≡ length (streams ++ more))
    × AllCarry (streams ++ more) making.given ts rows
GoAll streams ts making None = run making.steps streams ≡ None

-- the same as `Means` of several expressions, as the arguments of a call
abbrev pub AllMean : (Bound → (control next : ℕ) → Making (List Wires)) → (Environment → Option (List Value)) → Names → Context → List Ty → Type 0
AllMean translated values names context ts =
    (streams : Columns) (bound : Bound) (control : ℕ) (environments : List Environment)
    → Bears streams bound names context environments → Controls streams control (length environments)
    → GoAll streams ts (translated bound control (length streams)) (each values environments)
