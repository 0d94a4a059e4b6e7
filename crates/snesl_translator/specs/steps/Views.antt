-- Streams and steps as the program's data hold them.
use Rattle.std.specs.Prelude.{ℕ, List, map}
use Rattle.snesl_data.specs.declared.dialect.Dialect.{Dialect}
use Rattle.snesl_data.specs.Types.{ty_of}
use Rattle.flow_nodes.specs.plans.Plans.{Step}
use Rattle.flow_nodes.specs.plans.Views.{steps_of}
use Rattle.snesl_translation.specs.Wires.{Wires, wire, two, segments, Bound}
use Rattle.snesl_translator.specs.declared.steps.wires.Wires.{Wires as WiresData}
use Rattle.snesl_translator.specs.declared.steps.wires.Wires.TheVariants.{Wire, Two', Segments'}
use Rattle.snesl_translator.specs.declared.steps.wires.Binding.{Binding}
use Rattle.snesl_translator.specs.declared.steps.steps.Steps.{Steps}

-- the streams of a value, by their numbers
abbrev pub wires_of : WiresData → Wires
wires_of (Wire ty number) = wire (ty_of ty) number
wires_of (Two' p first q second) = two (wires_of first) (wires_of second)
wires_of (Segments' flags p items) = segments flags (wires_of items)

-- a name and its streams
abbrev pub binding_of : Binding → List ℕ × Wires
binding_of binding = (binding.name.now, wires_of binding.wires)

-- the same of names in order
abbrev pub bindings_of : List Binding → Bound
bindings_of bindings = map binding_of bindings

-- the dialect in which the steps compute
abbrev pub dialect_of_steps : Steps → Dialect
dialect_of_steps steps = steps.dialect

-- the steps so far
abbrev pub steps_in : Steps → List Step
steps_in steps = steps_of steps.dialect steps.steps.items

-- the number of the next stream
abbrev pub next_in : Steps → ℕ
next_in steps = steps.next
