-- The same ends, over several calls.
use Rattle.std.proofs.Common.{refl, ◌∙◌}
use Rattle.std.specs.Prelude.{Option, Some, None}
use Rattle.flow_edges.specs.declared.lanes.ends.LaneWriter.{LaneWriter}
use Rattle.flow_edges.specs.declared.lanes.ends.LaneReader.{LaneReader}
use Rattle.flow_edges.specs.declared.lanes.rings.Rings.{Rings}
use Rattle.flow_edges.specs.lanes.SameLanes.{same_writer_refl, same_reader_refl, same_writer_trans, same_reader_trans}
use Rattle.flow_edges.specs.lanes.Rings.{SameWriters, SameReaders, SameRings, writer_at, reader_at}

pub same_writers_refl : (w : Option LaneWriter) → SameWriters w w
same_writers_refl None = tt
same_writers_refl (Some w) = same_writer_refl w

pub same_readers_refl : (r : Option LaneReader) → SameReaders r r
same_readers_refl None = tt
same_readers_refl (Some r) = same_reader_refl r

pub same_writers_trans : (a b c : Option LaneWriter) → SameWriters a b → SameWriters b c → SameWriters a c
same_writers_trans None None None p q = tt
same_writers_trans None None (Some c) p q = absurd q
same_writers_trans None (Some b) c p q = absurd p
same_writers_trans (Some a) None c p q = absurd p
same_writers_trans (Some a) (Some b) None p q = absurd q
same_writers_trans (Some a) (Some b) (Some c) p q = same_writer_trans a b c p q

pub same_readers_trans : (a b c : Option LaneReader) → SameReaders a b → SameReaders b c → SameReaders a c
same_readers_trans None None None p q = tt
same_readers_trans None None (Some c) p q = absurd q
same_readers_trans None (Some b) c p q = absurd p
same_readers_trans (Some a) None c p q = absurd p
same_readers_trans (Some a) (Some b) None p q = absurd q
same_readers_trans (Some a) (Some b) (Some c) p q = same_reader_trans a b c p q

pub same_rings_refl : (a : Rings) → SameRings a a
same_rings_refl a = record { writer_count = refl; reader_count = refl; writers = λ k. same_writers_refl (writer_at a k); readers = λ k. same_readers_refl (reader_at a k) }

pub same_rings_trans : (a b c : Rings) → SameRings a b → SameRings b c → SameRings a c
same_rings_trans a b c p q = record {
  writer_count = q.writer_count ∙ p.writer_count;
  reader_count = q.reader_count ∙ p.reader_count;
  writers = λ k. same_writers_trans (writer_at a k) (writer_at b k) (writer_at c k) (p.writers k) (q.writers k);
  readers = λ k. same_readers_trans (reader_at a k) (reader_at b k) (reader_at c k) (p.readers k) (q.readers k);
}
