-- What a source writes next, by the number of items that it has written.
use Rattle.std.proofs.Common.{◌≡◌, ℕ, ◌+◌, Bool, true, false, Some, None, refl}
use Rattle.std.specs.List.{slice_get}
use Rattle.flow_messages.specs.Cells.{Cell}
use Rattle.flow_messages.specs.Signals.{carry, stop}
use Rattle.flow_base.specs.Transducers.{IsWrite}
use Rattle.flow_scalar.specs.Streams.{stream_cells, items_of}
use Rattle.flow_scalar.specs.SourceBehaviour.{source_state, finished, source_want, source_signal, source_after_write}
use Rattle.flow_scalar.specs.declared.source.Stream.{Stream}

-- where there is an item, it is written
pub sends_item : (stream : Stream) (n : ℕ) (ended : Bool) (x : Cell) → IsWrite (source_want (source_state stream n ended)) → slice_get (stream_cells stream) n ≡ Some x →
    (carry x ≡ source_signal (source_state stream n ended)) × (source_state stream (n + 1) ended ≡ source_after_write (source_state stream n ended))
sends_item stream n true x h e = absurd h
sends_item stream n false x h e = rw e (refl, refl)

-- past the last item the end is
pub sends_end : (stream : Stream) (n : ℕ) (ended : Bool) → IsWrite (source_want (source_state stream n ended)) → slice_get (stream_cells stream) n ≡ None →
    (stop ≡ source_signal (source_state stream n ended)) × (finished (items_of stream) ≡ source_after_write (source_state stream n ended))
sends_end stream n true h e = absurd h
sends_end stream n false h e = rw e (refl, refl)
