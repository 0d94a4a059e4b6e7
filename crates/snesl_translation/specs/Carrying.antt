-- What the streams of a plan carry.
use Rattle.std.specs.Prelude.{◌≡◌, ℕ, true, List, [], ◌∷◌, ◌++◌, length, replicate, Option, Some, None}
use Rattle.snesl_data.specs.Types.{Ty}
use Rattle.snesl_data.specs.Values.{Value, values_of}
use Rattle.flow_messages.specs.Cells.{unit}
use Rattle.flow_base.specs.Columns.{Columns}
use Rattle.flow_values.specs.Shapes.{all_are}
use Rattle.flow_nodes.specs.functions.Made.{columns_of_values}
use Rattle.snesl_evaluation.specs.Answer.{Answer, gives, faults}
use Rattle.flow_nodes.specs.plans.Plans.{streams_at, run}
use Rattle.snesl_translation.specs.Wires.{Wires, type_of_wires, AreWhole, numbers_of}
use Rattle.snesl_translation.specs.Makings.{Making}

-- the streams of these numbers are what values of the type put on its edges, and the values are of the type
pub record Carries (streams : Columns) (wires : Wires) (t : Ty) (values : List Value) : Type 0 where
  pub of_type : type_of_wires wires ≡ t
  pub whole : AreWhole wires
  pub are : all_are t (values_of values) ≡ true
  pub there : streams_at (numbers_of wires) streams ≡ Some (columns_of_values t values)

-- there is a Unit for each of so many instances
abbrev pub Controls : Columns → ℕ → ℕ → Type 0
Controls streams control instances = streams_at (control ∷ []) streams ≡ Some (replicate instances unit ∷ [])

-- The steps of a making run, add as many streams as they have numbers for, and what they give carries the values.
abbrev pub Makes : Columns → Ty → Making Wires → List Value → Type 0
Makes streams t making values =
    (more : Columns) × (run making.steps streams ≡ Some (streams ++ more)) × (making.next ≡ length (streams ++ more))
    × Carries (streams ++ more) making.given t values

-- what an answer gives, where it is no fault
abbrev pub given_by : {A : Type 0} → Answer A → Option A
given_by (gives x) = Some x
given_by (faults kind at) = None

-- Where there are values, the steps make these; where there are none, they do not run.
abbrev pub GoesTo : Columns → Ty → Making Wires → Option (List Value) → Type 0
GoesTo streams t making (Some values) = Makes streams t making values
GoesTo streams t making None = run making.steps streams ≡ None

-- Where the answer gives values, the steps make these; where it is a fault, they do not run.
abbrev pub Goes : Columns → Ty → Making Wires → Answer (List Value) → Type 0
Goes streams t making answer = GoesTo streams t making (given_by answer)
