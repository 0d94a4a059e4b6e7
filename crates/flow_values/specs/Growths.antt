-- What is added to lists that a worker holds.
use Rattle.std.specs.Prelude.{◌≡◌, ℕ, List, ◌++◌, map, take, Option}
use Rattle.std.specs.declared.alloc.Global.{Global}
use Rattle.std.specs.declared.sync.Arc.{Arc}
use Rattle.snesl_data.specs.Builders.{built_in}
use Rattle.snesl_data.specs.Types.{ty_of}
use Rattle.snesl_data.specs.Values.{Value, value_of}
use Rattle.snesl_data.specs.declared.builder.Builder.{Builder}
use Rattle.snesl_data.specs.declared.datum.Datum.{Datum}
use Rattle.snesl_data.specs.declared.ty.Ty.{Ty}
use Rattle.flow_messages.specs.declared.items.Items.{Items}
use Rattle.flow_values.specs.Dues.{DueCell, due_cell, dues_of, segment_dues}
use Rattle.flow_values.specs.Shapes.{kept_types, shared_type}
use Rattle.flow_values.specs.TabBlocks.{AddsScalars}
use Rattle.flow_values.specs.declared.dues.Due.{Due}
use Rattle.flow_messages.specs.Blocks.{item_signals}

-- these items are due after the others
abbrev pub DuesGrow : List Due → List DueCell → List Due → Type 0
DuesGrow old more new = map due_cell new ≡ map due_cell old ++ more

-- what is due for a value of the type, the first of whose edges is this port
abbrev pub value_dues : Ty → ℕ → Datum → List DueCell
value_dues ty port datum = dues_of (ty_of ty) port (value_of datum)

-- what is due for a sequence of these elements
abbrev pub all_dues : Ty → ℕ → List Datum → List DueCell
all_dues item port all = segment_dues (ty_of item) port (map value_of all)

-- the types of the edges of the type come after the others, as far as they are kept
abbrev pub TypesGrow : List (Option (Arc Ty Global)) → Ty → List (Option (Arc Ty Global)) → Type 0
TypesGrow old ty new = map shared_type new ≡ map shared_type old ++ kept_types (ty_of ty)

-- these elements come after the others
abbrev pub ElementsGrow : Builder → List Value → Builder → Type 0
ElementsGrow old more new = built_in new ≡ built_in old ++ more

-- the first so many scalars of the type that are shown come after the other elements
abbrev pub AddsShown : Ty → ℕ → Items → Builder → Builder → Type 0
AddsShown ty count shown old new = AddsScalars (ty_of ty) (take count (item_signals shown)) (built_in old) (built_in new)
