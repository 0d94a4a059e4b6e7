-- Rings that meet at an edge.
use Rattle.std.proofs.Common.{◌≡◌, ◌≢◌, ℕ, zero, suc, true, List, [], ◌∷◌, refl, ◌∙◌, get_or, rules}
use Rattle.std.specs.Prelude.{Option, Some, None}
use Rattle.flow_messages.specs.Tables.{at_line}
use Rattle.flow_edges.specs.declared.lanes.ends.LaneWriter.{LaneWriter}
use Rattle.flow_edges.specs.declared.lanes.ends.LaneReader.{LaneReader}
use Rattle.flow_edges.specs.declared.lanes.rings.Rings.{Rings}
use Rattle.flow_edges.specs.lanes.SameLanes.{same_capacity}
use Rattle.flow_edges.specs.lanes.Rings.{capacity_of, writes_of, reads_of, ends_of, writer_at, reader_at, SameWriters, SameRings, Joins, Kept}
use Rattle.flow_edges.specs.lanes.SameEnds.{same_rings_refl}
use Rattle.flow_edges.proofs.OfLanes.Meetings.{joins-kept}
use Rattle.flow_shares.specs.meetings.Met.{kept_refl}

-- the writer, which is in a, and the reader, which is in b, are the two ends of edge e
abbrev pub RingsJoin : Rings → Rings → ℕ → Type 0
RingsJoin a b e = Joins (writer_at a e) (reader_at b e)

-- how many messages the edge of the writer holds at most
abbrev pub ring_slots : Rings → ℕ → ℕ
ring_slots a e = capacity_of (writer_at a e)

-- the same ends are there, nothing was put or taken, and no certainty is lost
pub record RingsMeet (e : ℕ) (a b : Rings) : Type 0 where
  pub same : SameRings a b
  pub kept : Kept (ends_of a) (ends_of b)

-- what is seen at a number is seen of what is there
pub at_line_is : {L X : Type 0} (f : L → X) (ls : List L) (e : ℕ) (d : L) → at_line f ls e (f d) ≡ f (get_or ls e d)
at_line_is f [] e d = refl
at_line_is f (l ∷ ls) zero d = refl
at_line_is f (l ∷ ls) (suc e) d = at_line_is f ls e d

joined_ends : (w : Option LaneWriter) (r : Option LaneReader) → Joins w r → (writes_of w ≡ true) × (reads_of r ≡ true)
joined_ends None r joined = absurd joined
joined_ends (Some w) None joined = absurd joined
joined_ends (Some w) (Some r) joined = (refl, refl)

pub rings_join_ends : (a b : Rings) (e : ℕ) → RingsJoin a b e → ((ends_of a).writes e ≡ true) × ((ends_of b).reads e ≡ true)
rings_join_ends a b e joined =
    let there = joined_ends (writer_at a e) (reader_at b e) joined in
    (at_line_is writes_of a.writers.items e None ∙ there.0, at_line_is reads_of b.readers.items e None ∙ there.1)

pub rings_meet_refl : (e : ℕ) (a : Rings) → RingsMeet e a a
rings_meet_refl e a = record { same = same_rings_refl a; kept = kept_refl (ends_of a) }

pub rings_meet_kept : (e : ℕ) (a b : Rings) → RingsMeet e a b → Kept (ends_of a) (ends_of b)
rings_meet_kept e a b met = met.kept

same_places : (w v : Option LaneWriter) → SameWriters w v → capacity_of v ≡ capacity_of w
same_places None None same = refl
same_places None (Some v) same = absurd same
same_places (Some w) None same = absurd same
same_places (Some w) (Some v) same = same_capacity w v same

pub rings_keep_slots : (a b : Rings) → SameRings a b → (k : ℕ) → ring_slots b k ≡ ring_slots a k
rings_keep_slots a b same k = same_places (writer_at a k) (writer_at b k) (same.writers k)

pub rings_meet_slots : (e : ℕ) (a b : Rings) → RingsMeet e a b → (k : ℕ) → ring_slots b k ≡ ring_slots a k
rings_meet_slots e a b met k = rings_keep_slots a b met.same k

pub rings_meet_same : (e : ℕ) (a b : Rings) → RingsMeet e a b → SameRings a b
rings_meet_same e a b met = met.same

pub rings_same_stay : (a b : Rings) → SameRings a b → SameRings a b
rings_same_stay a b same = same

pub rings_join_writer : (a a' b : Rings) (e k : ℕ) → RingsJoin a b k → k ≢ e → RingsMeet e a a' → RingsJoin a' b k
rings_join_writer a a' b e k joined ne met = joins-kept a a' b b k joined met.same (same_rings_refl b)

pub rings_join_reader : (a b b' : Rings) (e k : ℕ) → RingsJoin a b k → k ≢ e → RingsMeet e b b' → RingsJoin a b' k
rings_join_reader a b b' e k joined ne met = joins-kept a a b b' k joined (same_rings_refl a) met.same
