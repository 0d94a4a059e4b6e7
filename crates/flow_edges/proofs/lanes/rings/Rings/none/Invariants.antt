use Rattle.std.proofs.Common.{◌≡◌, ℕ, length, get_or}
use Rattle.std.specs.Prelude.{None}
use Rattle.flow_edges.proofs.lanes.rings.Rings.none.Given as goal

abbrev pub invariant-loop : goal.invariant-loop
invariant-loop l = record {
  writer_count : length l.writers.items ≡ l.counter;
  reader_count : length l.readers.items ≡ l.counter;
  no_writer : (e : ℕ) → get_or l.writers.items e None ≡ None;
  no_reader : (e : ℕ) → get_or l.readers.items e None ≡ None;
}
