-- The same ends of a lane, over several calls.
use Rattle.std.proofs.Common.{◌≡◌, refl, sym, ap, ◌∙◌, arith}
use Rattle.std.specs.Prelude.{Some}
use Rattle.flow_rings.specs.declared.ring.EdgeWriter.{EdgeWriter}
use Rattle.flow_rings.specs.declared.ring.EdgeReader.{EdgeReader}
use Rattle.flow_rings.specs.Edge as ring
use Rattle.flow_words.specs.declared.ring.WordWriter.{WordWriter}
use Rattle.flow_words.specs.declared.ring.WordReader.{WordReader}
use Rattle.flow_words.specs.Edge as words
use Rattle.flow_edges.specs.declared.lanes.ends.LaneWriter.{LaneWriter}
use Rattle.flow_edges.specs.declared.lanes.ends.LaneWriter.TheVariants.{Messages as MessagesTo, Scalars as ScalarsTo}
use Rattle.flow_edges.specs.declared.lanes.ends.LaneReader.{LaneReader}
use Rattle.flow_edges.specs.declared.lanes.ends.LaneReader.TheVariants.{Messages as MessagesFrom, Scalars as ScalarsFrom}
use Rattle.flow_edges.specs.lanes.Lane.{IsLane, SameWriter, SameReader, kind_of, edge_capacity}

to_trans : (a b c : EdgeWriter) → ring.SameWriter a b → ring.SameWriter b c → ring.SameWriter a c
to_trans a b c p q = (q.0 ∙ p.0, q.1 ∙ p.1)

from_trans : (a b c : EdgeReader) → ring.SameReader a b → ring.SameReader b c → ring.SameReader a c
from_trans a b c p q = (q.0 ∙ p.0, q.1 ∙ p.1)

edge_stays : (w v : EdgeWriter) (r s : EdgeReader) → ring.IsEdge w r → ring.SameWriter w v → ring.SameReader r s → ring.IsEdge v s
edge_stays w v r s joined p q = q.0 ∙ joined ∙ sym p.0

words_to_trans : (a b c : WordWriter) → words.SameWriter a b → words.SameWriter b c → words.SameWriter a c
words_to_trans a b c p q = (q.0 ∙ p.0, q.1 ∙ p.1)

words_stay : (w v : WordWriter) (r s : WordReader) → words.IsEdge w r → words.SameWriter w v → words.SameReader r s → words.IsEdge v s
words_stay w v r s joined p q = q ∙ joined ∙ sym p.0

pub same_writer_refl : (w : LaneWriter) → SameWriter w w
same_writer_refl (MessagesTo w) = (refl, refl)
same_writer_refl (ScalarsTo w) = ((refl, refl), (refl, refl))

pub same_reader_refl : (r : LaneReader) → SameReader r r
same_reader_refl (MessagesFrom r) = (refl, refl)
same_reader_refl (ScalarsFrom p) = (refl, (refl, refl), refl)

pub same_writer_trans : (a b c : LaneWriter) → SameWriter a b → SameWriter b c → SameWriter a c
same_writer_trans (MessagesTo a) (MessagesTo b) (MessagesTo c) p q = to_trans a b c p q
same_writer_trans (ScalarsTo a) (ScalarsTo b) (ScalarsTo c) p q = (words_to_trans a.edge b.edge c.edge p.0 q.0, from_trans a.back b.back c.back p.1 q.1)
same_writer_trans (MessagesTo a) (ScalarsTo b) c p q = absurd p
same_writer_trans (ScalarsTo a) (MessagesTo b) c p q = absurd p
same_writer_trans (MessagesTo a) (MessagesTo b) (ScalarsTo c) p q = absurd q
same_writer_trans (ScalarsTo a) (ScalarsTo b) (MessagesTo c) p q = absurd q

pub same_reader_trans : (a b c : LaneReader) → SameReader a b → SameReader b c → SameReader a c
same_reader_trans (MessagesFrom a) (MessagesFrom b) (MessagesFrom c) p q = from_trans a b c p q
same_reader_trans (ScalarsFrom a) (ScalarsFrom b) (ScalarsFrom c) p q = (q.0 ∙ p.0, to_trans a.back b.back c.back p.1 q.1, q.2 ∙ p.2)
same_reader_trans (MessagesFrom a) (ScalarsFrom b) c p q = absurd p
same_reader_trans (ScalarsFrom a) (MessagesFrom b) c p q = absurd p
same_reader_trans (MessagesFrom a) (MessagesFrom b) (ScalarsFrom c) p q = absurd q
same_reader_trans (ScalarsFrom a) (ScalarsFrom b) (MessagesFrom c) p q = absurd q

-- the ends of a lane stay so
pub lane_stays : (w v : LaneWriter) (r s : LaneReader) → IsLane w r → SameWriter w v → SameReader r s → IsLane v s
lane_stays (MessagesTo w) (MessagesTo v) (MessagesFrom r) (MessagesFrom s) joined p q = edge_stays w v r s joined p q
lane_stays (ScalarsTo w) (ScalarsTo v) (ScalarsFrom r) (ScalarsFrom s) joined p q = (
  words_stay w.edge v.edge r.edge s.edge joined.0 p.0 q.0,
  edge_stays r.back s.back w.back v.back joined.1 q.1 p.1,
  omega (arith, joined.2, p.0.1, q.2),
)
lane_stays (MessagesTo w) v (ScalarsFrom r) s joined p q = absurd joined
lane_stays (ScalarsTo w) v (MessagesFrom r) s joined p q = absurd joined
lane_stays (MessagesTo w) (ScalarsTo v) (MessagesFrom r) s joined p q = absurd p
lane_stays (ScalarsTo w) (MessagesTo v) (ScalarsFrom r) s joined p q = absurd p
lane_stays (MessagesTo w) (MessagesTo v) (MessagesFrom r) (ScalarsFrom s) joined p q = absurd q
lane_stays (ScalarsTo w) (ScalarsTo v) (ScalarsFrom r) (MessagesFrom s) joined p q = absurd q

pub same_kind : (w v : LaneWriter) → SameWriter w v → kind_of v ≡ kind_of w
same_kind (MessagesTo w) (MessagesTo v) p = ap (λ of. of.0) p.0
same_kind (ScalarsTo w) (ScalarsTo v) p = ap (λ of. Some of.0) p.0.0
same_kind (MessagesTo w) (ScalarsTo v) p = absurd p
same_kind (ScalarsTo w) (MessagesTo v) p = absurd p

pub same_capacity : (w v : LaneWriter) → SameWriter w v → edge_capacity v ≡ edge_capacity w
same_capacity (MessagesTo w) (MessagesTo v) p = p.1
same_capacity (ScalarsTo w) (ScalarsTo v) p = p.0.1
same_capacity (MessagesTo w) (ScalarsTo v) p = absurd p
same_capacity (ScalarsTo w) (MessagesTo v) p = absurd p
