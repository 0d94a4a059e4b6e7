-- Rings of which an edge is opened.
use Rattle.std.proofs.Common.{◌≡◌, ◌≢◌, ℕ, ◌<◌, length, refl, sym, ap, subst, arith}
use Rattle.flow_messages.specs.declared.message.Kind.{Kind}
use Rattle.flow_edges.specs.declared.lanes.rings.Rings.{Rings}
use Rattle.flow_edges.specs.lanes.Rings.{capacity_of, writer_at, reader_at, Joins}
use Rattle.flow_shares.specs.meetings.RingMeetings.{RingsJoin, ring_slots}

-- edge e has a number among these, of whatever kind it is to be
abbrev pub RingsHavePlace : Rings → ℕ → Kind → ℕ → Type 0
RingsHavePlace a e kind capacity = (e < length a.writers.items) × (e < length a.readers.items)

-- Before and after ends of edge e were put here: those of the others stay.
pub record RingsOpen (e : ℕ) (a b : Rings) : Type 0 where
  pub writer_count : length b.writers.items ≡ length a.writers.items
  pub reader_count : length b.readers.items ≡ length a.readers.items
  pub writers : (k : ℕ) → k ≢ e → writer_at b k ≡ writer_at a k
  pub readers : (k : ℕ) → k ≢ e → reader_at b k ≡ reader_at a k

pub rings_opens_refl : (e : ℕ) (a : Rings) → RingsOpen e a a
rings_opens_refl e a = record { writer_count = refl; reader_count = refl; writers = λ k ne. refl; readers = λ k ne. refl }

pub rings_opens_place : (e : ℕ) (a b : Rings) → RingsOpen e a b → (k : ℕ) (kind : Kind) (capacity : ℕ) → RingsHavePlace a k kind capacity → RingsHavePlace b k kind capacity
rings_opens_place e a b opens k kind capacity place = (omega (arith, place.0, opens.writer_count), omega (arith, place.1, opens.reader_count))

pub rings_opens_places : (e : ℕ) (a b : Rings) → RingsOpen e a b → (k : ℕ) → k ≢ e → ring_slots b k ≡ ring_slots a k
rings_opens_places e a b opens k ne = ap capacity_of (opens.writers k ne)

pub rings_open_join_writer : (a a' b : Rings) (e k : ℕ) → RingsJoin a b k → k ≢ e → RingsOpen e a a' → RingsJoin a' b k
rings_open_join_writer a a' b e k joined ne opens = subst (λ w. Joins w (reader_at b k)) (sym (opens.writers k ne)) joined

pub rings_open_join_reader : (a b b' : Rings) (e k : ℕ) → RingsJoin a b k → k ≢ e → RingsOpen e b b' → RingsJoin a b' k
rings_open_join_reader a b b' e k joined ne opens = subst (λ r. Joins (writer_at a k) r) (sym (opens.readers k ne)) joined
