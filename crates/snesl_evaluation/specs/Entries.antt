-- Inputs as the evaluator holds them.
use Rattle.std.specs.Prelude.{◌≡◌, ℕ, List, Some, slice_get}
use Rattle.snesl_data.specs.Values.{Value, value_of}
use Rattle.snesl_values.specs.declared.environment.Inputs.{Inputs}
use Rattle.snesl_values.specs.Inputs.{environment_of}
use Rattle.snesl_evaluation.specs.declared.entries.Entry.{Entry}

-- a name, and the value beside it
abbrev pub entry_of : Entry → List ℕ × Value
entry_of entry = (entry.name.items, value_of entry.datum)

-- the input of this number
abbrev pub IsInputAt : Inputs → ℕ → Entry → Type 0
IsInputAt inputs number entry = slice_get (environment_of inputs) number ≡ Some (entry_of entry)
