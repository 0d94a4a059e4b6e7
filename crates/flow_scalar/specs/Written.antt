-- What the other workers over scalars leave, and what a source is made of.
use Rattle.std.specs.Prelude.{◌≡◌, ℕ, ◌+◌, List, ◌++◌, take}
use Rattle.snesl_data.specs.declared.dialect.Dialect.{Dialect}
use Rattle.flow_messages.specs.Cells.{cell_of}
use Rattle.flow_messages.specs.declared.message.Item.{Item}
use Rattle.flow_base.specs.Machines.{written_cell}
use Rattle.flow_base.specs.Ranges.{SignalsInRange}
use Rattle.flow_base.specs.Transducers.{closed}
use Rattle.flow_scalar.specs.SinkMachine.{sink_machine}
use Rattle.flow_scalar.specs.SourceBehaviour.{source_behaviour, source_opening}
use Rattle.flow_scalar.specs.Streams.{items_of, stream_cells}
use Rattle.flow_scalar.specs.declared.sink.Sink.{Sink}
use Rattle.flow_scalar.specs.declared.source.Stream.{Stream}

-- so many places behind the first n hold these, and the first n what they held
abbrev pub FilledBehind : {X : Type 0} → ℕ → ℕ → List X → List X → List X → Type 0
FilledBehind n count old more new = take (n + count) new ≡ take n old ++ more

-- the item is what a sink would write, and the sink is as it was
abbrev pub SinkGives : Sink → Item → Sink → Type 0
SinkGives old item new = (cell_of item ≡ written_cell (sink_machine.move old.kind tt)) × (new ≡ old)

-- the integers of the stream lie in the range of the dialect
abbrev pub StreamInRange : Dialect → Stream → Type 0
StreamInRange dialect stream = SignalsInRange dialect (closed (stream_cells stream))

-- the integers of a source of the stream do
abbrev pub SourceInRange : Dialect → Stream → Type 0
SourceInRange dialect stream = source_behaviour.in_range dialect (source_opening (items_of stream))
