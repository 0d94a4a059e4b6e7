-- The beginning of a stream: the states of a source, and what it does.
use Rattle.std.specs.Prelude.{ℕ, ◌+◌, ◌-◌, Bool, true, false, [], length, Option, Some, None}
use Rattle.std.specs.List.{slice_get}
use Rattle.kahn.specs.declared.want.Want.{Want}
use Rattle.kahn.specs.declared.want.Want.TheVariants.{Write, Ended}
use Rattle.flow_messages.specs.Cells.{Cell, is_of}
use Rattle.flow_messages.specs.Signals.{Signal, carry, stop}
use Rattle.flow_messages.specs.declared.message.Kind.TheVariants.{Unit as UnitKind, Vec as VecKind}
use Rattle.flow_base.specs.Ranges.{SignalsInRange}
use Rattle.flow_base.specs.Transducers.{Behaviour, closed}
use Rattle.flow_base.specs.Members.{NodeOf}
use Rattle.flow_scalar.specs.declared.source.Source.{Source}
use Rattle.flow_scalar.specs.Rows.{SourceRow}
use Rattle.flow_scalar.specs.Streams.{Items, items_of}
use Rattle.flow_scalar.specs.declared.source.Stream.{Stream}

-- What the laws see of a source.
pub data SourceState : Type 0 where
  -- so many of the items are written
  sending : Items → ℕ → SourceState
  -- all of them are, and the end
  finished : Items → SourceState

-- what the laws see of a source of this stream that has written so many of its items, and perhaps the end
abbrev pub source_state : Stream → ℕ → Bool → SourceState
source_state stream written false = sending (items_of stream) written
source_state stream written true = finished (items_of stream)

-- a source that has written nothing
abbrev pub source_opening : Items → SourceState
source_opening items = sending items 0

-- all items of the stream
abbrev pub source_items : SourceState → Items
source_items (sending items written) = items
source_items (finished items) = items

abbrev pub source_want : SourceState → Want
source_want (sending items written) = Write 0
source_want (finished items) = Ended

-- the next item, or the end after the last
abbrev pub next_signal : Option Cell → Signal
next_signal (Some x) = carry x
next_signal None = stop

-- the state after the next item, or after the end
abbrev pub next_state : Items → ℕ → Option Cell → SourceState
next_state items written (Some x) = sending items (written + 1)
next_state items written None = finished items

abbrev pub source_signal : SourceState → Signal
source_signal (sending items written) = next_signal (slice_get items.cells written)
source_signal (finished items) = stop

abbrev pub source_after_write : SourceState → SourceState
source_after_write (sending items written) = next_state items written (slice_get items.cells written)
source_after_write (finished items) = finished items

abbrev pub source_debt : SourceState → ℕ
source_debt (sending items written) = length items.cells - written + 1
source_debt (finished items) = 0

-- whether there is an item, and it is a vector
abbrev pub is_vector : Option Cell → Bool
is_vector (Some x) = is_of VecKind x
is_vector None = false

-- the copy of a vector may take memory
abbrev pub source_takes_memory : SourceState → Bool
source_takes_memory (sending items written) = is_vector (slice_get items.cells written)
source_takes_memory (finished items) = false

-- what it does; it has no faults, and so no place that they name; that its items are of its kind, the state says
abbrev pub source_behaviour : Behaviour SourceState
source_behaviour = record {
  sample = source_opening (record { kind = UnitKind; cells = []; all_of = tt });
  process = record {
    want = source_want;
    read = λ s _. s;
    written = source_signal;
    wrote = source_after_write;
    debt = source_debt;
    end = stop;
  };
  opening = λ s. source_opening (source_items s);
  inputs = λ _. 0;
  outputs = λ _. 1;
  kind_in = λ s _. (source_items s).kind;
  kind_out = λ s _. (source_items s).kind;
  at = λ _. 0;
  row = λ s. SourceRow (source_items s).cells;
  of_kind = λ _. Unit {0};
  in_range = λ dialect s. SignalsInRange dialect (closed (source_items s).cells);
  takes_memory = source_takes_memory;
}

-- the transducer, with its states
abbrev pub source_node : NodeOf Source
source_node = record { State = SourceState; state = λ n. source_state n.stream n.written n.ended; behaviour = source_behaviour }
