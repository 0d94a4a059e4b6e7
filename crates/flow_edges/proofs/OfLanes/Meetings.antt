-- What a meeting keeps, and what it finds.
use Rattle.std.proofs.Common.{◌≡◌, ◌≢◌, ℕ, zero, suc, ◌+◌, ◌<◌, ◌≤◌, true, List, [], ◌∷◌, ◌++◌, length, refl, ap, sym, ◌∙◌, get_or, set, subst, arith, append-nil, append_assoc, ◌⊎◌, inl, inr}
use Rattle.std.proofs.lemmas.Bool.{cases_eq}
use Rattle.std.proofs.lemmas.List.{get_or-set_same}
use Rattle.std.specs.Prelude.{Option, Some, None}
use mathlib.Core.List.{IsPrefix}
use Rattle.flow_messages.specs.Signals.{Signal, carry, stop, signals, ended, orderly}
use Rattle.flow_messages.specs.Ends.{View, SameEnds, LookedForRoom, LookedForMessages}
use Rattle.flow_messages.specs.Tables.{at_line}
use Rattle.flow_messages.specs.TableLaws.{signals-length}
use Rattle.flow_messages.proofs.Tables.{at_line-same}
use Rattle.flow_edges.specs.declared.lanes.ends.LaneWriter.{LaneWriter}
use Rattle.flow_edges.specs.declared.lanes.ends.LaneWriter.TheVariants.{Messages as MessagesTo, Scalars as ScalarsTo}
use Rattle.flow_edges.specs.declared.lanes.ends.LaneReader.{LaneReader}
use Rattle.flow_rings.specs.declared.ring.Held.{Held}
use Rattle.flow_edges.specs.declared.lanes.rings.Rings.{Rings}
use Rattle.flow_edges.specs.lanes.Lane.{sent, received, certain_room, certain_held, edge_capacity, IsLane, IsOut, SameWriter, SameReader}
use Rattle.flow_edges.specs.lanes.SameLanes.{lane_stays, same_kind, same_capacity}
use Rattle.flow_edges.specs.lanes.Rings.{kind_seen, sent_of, room_of, writes_of, received_of, coming_of, reads_of, capacity_of, ends_of, writer_at}
use Rattle.flow_edges.specs.lanes.Rings.{reader_at, capacity_at, OutOf, SameWriters, SameReaders, SameRings, Joins, Kept, RingsHaveMet}
use Rattle.flow_words.specs.Edge as words
use Rattle.flow_edges.proofs.OfLanes.Beside.{all_orderly}
use Rattle.flow_edges.proofs.OfLanes.RingLines.{signals-append}

prefix-refl : (xs ys : List Signal) → ys ≡ xs → IsPrefix xs ys
prefix-refl xs ys is = ([], append-nil xs ∙ sym is)

prefix-trans : (xs ys zs : List Signal) → IsPrefix xs ys → IsPrefix ys zs → IsPrefix xs zs
prefix-trans xs ys zs p q = (p.0 ++ q.0, sym (append_assoc xs p.0 q.0) ∙ ap (λ l. l ++ q.0) p.1 ∙ q.1)

room_at : (a b : ℕ → ℕ) (e : ℕ) → ((k : ℕ) → k ≢ e → b k ≡ a k) → a e ≤ b e → (k : ℕ) → a k ≤ b k
room_at a b e others here k = by_cases (cases_eq k e) where
  by_cases : (k ≡ e) ⊎ (k ≡ e → ⊥) → a k ≤ b k
  by_cases (inl at) = rw at here
  by_cases (inr ne) = let h = others k ne in omega arith

coming_at : (a b : ℕ → List Signal) (e : ℕ) → ((k : ℕ) → k ≢ e → b k ≡ a k) → IsPrefix (a e) (b e) → (k : ℕ) → IsPrefix (a k) (b k)
coming_at a b e others here k = by_cases (cases_eq k e) where
  by_cases : (k ≡ e) ⊎ (k ≡ e → ⊥) → IsPrefix (a k) (b k)
  by_cases (inl at) = rw at here
  by_cases (inr ne) = prefix-refl (a k) (b k) (others k ne)

-- a look keeps what was certain
pub kept-room : (a b : View) (e : ℕ) → LookedForRoom a e b → Kept a b
kept-room a b e l = record { ends = l.ends; traffic = l.traffic; coming = λ k. prefix-refl (a.coming k) (b.coming k) (l.coming k); room = room_at a.room b.room e l.room l.more }

pub kept-messages : (a b : View) (e : ℕ) → LookedForMessages a e b → Kept a b
kept-messages a b e l = record { ends = l.ends; traffic = l.traffic; room = λ k. (let h = l.room k in omega arith); coming = coming_at a.coming b.coming e l.coming l.more }

pub kept-trans : (a b c : View) → Kept a b → Kept b c → Kept a c
kept-trans a b c p q = record {
  ends = record { kinds = λ k. q.ends.kinds k ∙ p.ends.kinds k; writes = λ k. q.ends.writes k ∙ p.ends.writes k; reads = λ k. q.ends.reads k ∙ p.ends.reads k };
  traffic = record { sent = λ k. q.traffic.sent k ∙ p.traffic.sent k; received = λ k. q.traffic.received k ∙ p.traffic.received k };
  coming = λ k. prefix-trans (a.coming k) (b.coming k) (c.coming k) (p.coming k) (q.coming k);
  room = λ k. (let x = p.room k in let y = q.room k in omega arith);
}

-- ends that join are there
pub joins-writer : (ws : List (Option LaneWriter)) (e : ℕ) (r : Option LaneReader) → Joins (get_or ws e None) r → e < length ws
joins-writer [] e r h = absurd h
joins-writer (w ∷ ws) zero r h = omega arith
joins-writer (w ∷ ws) (suc e) r h = omega (arith, joins-writer ws e r h)

pub joins-reader : (w : Option LaneWriter) (rs : List (Option LaneReader)) (e : ℕ) → Joins w (get_or rs e None) → e < length rs
joins-reader None rs e h = absurd h
joins-reader (Some w) [] e h = absurd h
joins-reader (Some w) (r ∷ rs) zero h = omega arith
joins-reader (Some w) (r ∷ rs) (suc e) h = omega (arith, joins-reader (Some w) rs e h)

-- what both ends found where they met is so for the shares that own them
pub met_here : (ws : List (Option LaneWriter)) (rs : List (Option LaneReader)) (a b : Rings) (e : ℕ) (w : LaneWriter) (r : LaneReader) (found : Held) → e < length ws → e < length rs
    → a.writers.items ≡ set ws e (Some w) → b.readers.items ≡ set rs e (Some r)
    → received r ++ certain_held r ≡ sent w → found.count ≡ length (certain_held r) → found.room ≤ certain_room w → found.count + found.room ≡ edge_capacity w → IsOut w
    → RingsHaveMet a b e found
met_here ws rs a b e w r found hw hr is-a is-b fifo count room whole out =
    let coming : at_line coming_of b.readers.items e [] ≡ signals (certain_held r) =
    ap (λ (l : List (Option LaneReader)). at_line coming_of l e []) is-b ∙ at_line-same coming_of rs e [] (Some r) hr in
    let taken : at_line received_of b.readers.items e [] ≡ signals (received r) =
    ap (λ (l : List (Option LaneReader)). at_line received_of l e []) is-b ∙ at_line-same received_of rs e [] (Some r) hr in
    let put : at_line sent_of a.writers.items e [] ≡ signals (sent w) = ap (λ (l : List (Option LaneWriter)). at_line sent_of l e []) is-a ∙ at_line-same sent_of ws e [] (Some w) hw in
    let free : at_line room_of a.writers.items e 0 ≡ certain_room w = ap (λ (l : List (Option LaneWriter)). at_line room_of l e 0) is-a ∙ at_line-same room_of ws e 0 (Some w) hw in
    let places : at_line capacity_of a.writers.items e 0 ≡ edge_capacity w = ap (λ (l : List (Option LaneWriter)). at_line capacity_of l e 0) is-a ∙ at_line-same capacity_of ws e 0 (Some w) hw in
    record {
      in_order = ap (λ xs. xs ++ at_line coming_of b.readers.items e []) taken ∙ ap (λ xs. signals (received r) ++ xs) coming
          ∙ sym (signals-append (received r) (certain_held r)) ∙ ap signals fifo ∙ sym put;
      count = count ∙ sym (signals-length (certain_held r)) ∙ sym (ap length coming);
      room = omega (arith, free, room);
      whole = whole ∙ sym places;
      out = subst (λ (l : List (Option LaneWriter)). OutOf (get_or l e None)) (sym is-a) (subst OutOf (sym (get_or-set_same ws e (Some w) None hw)) out);
    }

-- in an orderly list nothing stands after a part that has a stop
nothing-left : (before after : List Signal) → orderly (before ++ after) ≡ true → ended before ≡ true → after ≡ []
unfolding ended orderly
nothing-left [] after h closed = cc
nothing-left (carry x ∷ before) after h closed = nothing-left before after h closed
nothing-left (stop ∷ []) [] h closed = refl
nothing-left (stop ∷ []) (m ∷ after) h closed = cc
nothing-left (stop ∷ m ∷ before) after h closed = cc

sent_orderly : (w : LaneWriter) → orderly (signals (sent w)) ≡ true
sent_orderly (MessagesTo w) = w.orderly
sent_orderly (ScalarsTo w) = all_orderly (words.sent w.edge) w.gathered.items w.closed w.edge.orderly

-- whatever was put by writers is orderly
writers_orderly : (ws : List (Option LaneWriter)) (e : ℕ) → orderly (at_line sent_of ws e []) ≡ true
unfolding orderly
writers_orderly [] e = refl
writers_orderly (None ∷ ws) zero = refl
writers_orderly (Some w ∷ ws) zero = sent_orderly w
writers_orderly (w ∷ ws) (suc e) = writers_orderly ws e

-- after a meeting what was taken begins what was put, and is all of it where a stop was taken
pub met-begins : (a b : Rings) (e : ℕ) (found : Held) → RingsHaveMet a b e found → IsPrefix ((ends_of b).received e) ((ends_of a).sent e)
met-begins a b e found m = ((ends_of b).coming e, m.in_order)

pub met-stopped : (a b : Rings) (e : ℕ) (found : Held) → RingsHaveMet a b e found → ended ((ends_of b).received e) ≡ true → ((ends_of b).received e ≡ (ends_of a).sent e) × ((ends_of b).coming e ≡ [])
met-stopped a b e found m stopped =
    let none : (ends_of b).coming e ≡ [] = nothing-left ((ends_of b).received e) ((ends_of b).coming e) (ap (λ (l : List Signal). orderly l) m.in_order ∙ writers_orderly a.writers.items e) stopped in
    (sym (append-nil ((ends_of b).received e)) ∙ ap (λ (l : List Signal). (ends_of b).received e ++ l) (sym none) ∙ m.in_order, none)

-- the ends of one edge stay so, over calls of either
same_ends : (w w' : LaneWriter) (r r' : LaneReader) → IsLane w r → SameWriter w w' → SameReader r r' → IsLane w' r'
same_ends w w' r r' j p q = lane_stays w w' r r' j p q

joined : (w w' : Option LaneWriter) (r r' : Option LaneReader) → Joins w r → SameWriters w w' → SameReaders r r' → Joins w' r'
joined None w' r r' j p q = absurd j
joined (Some w) w' None r' j p q = absurd j
joined (Some w) None (Some r) r' j p q = absurd p
joined (Some w) (Some w') (Some r) None j p q = absurd q
joined (Some w) (Some w') (Some r) (Some r') j p q = same_ends w w' r r' j p q

pub joins-kept : (a a' b b' : Rings) (e : ℕ) → Joins (writer_at a e) (reader_at b e) → SameRings a a' → SameRings b b' → Joins (writer_at a' e) (reader_at b' e)
joins-kept a a' b b' e j p q = joined (writer_at a e) (writer_at a' e) (reader_at b e) (reader_at b' e) j (p.writers e) (q.readers e)

-- what is read off the end at a number, where f says d of none
at_line-end : {L X : Type 0} (f : Option L → X) (ls : List (Option L)) (e : ℕ) → at_line f ls e (f None) ≡ f (get_or ls e None)
at_line-end f [] e = refl
at_line-end f (l ∷ ls) zero = refl
at_line-end f (l ∷ ls) (suc e) = at_line-end f ls e

joins-there : (w : Option LaneWriter) (r : Option LaneReader) → Joins w r → (writes_of w ≡ true) × (reads_of r ≡ true)
joins-there None r j = absurd j
joins-there (Some w) None j = absurd j
joins-there (Some w) (Some r) j = (refl, refl)

same-writes : (w v : Option LaneWriter) → SameWriters w v → (writes_of v ≡ writes_of w) × (capacity_of v ≡ capacity_of w)
same-writes None None p = (refl, refl)
same-writes None (Some v) p = absurd p
same-writes (Some w) None p = absurd p
same-writes (Some w) (Some v) p = (refl, same_capacity w v p)

same-kind : (w v : Option LaneWriter) → SameWriters w v → kind_seen v ≡ kind_seen w
same-kind None None p = refl
same-kind None (Some v) p = absurd p
same-kind (Some w) None p = absurd p
same-kind (Some w) (Some v) p = same_kind w v p

same-reads : (r v : Option LaneReader) → SameReaders r v → reads_of v ≡ reads_of r
same-reads None None p = refl
same-reads None (Some v) p = absurd p
same-reads (Some r) None p = absurd p
same-reads (Some r) (Some v) p = refl

-- ends that join are seen
pub joins-seen : (a b : Rings) (e : ℕ) → Joins (writer_at a e) (reader_at b e) → ((ends_of a).writes e ≡ true) × ((ends_of b).reads e ≡ true)
joins-seen a b e j =
    let there = joins-there (writer_at a e) (reader_at b e) j in
    (at_line-end writes_of a.writers.items e ∙ there.0, at_line-end reads_of b.readers.items e ∙ there.1)

-- the same ends stay at their numbers, and their edges keep their capacities
pub ends-kept : (a b : Rings) → SameRings a b → SameEnds (ends_of a) (ends_of b)
ends-kept a b p = record {
  kinds = λ k. at_line-end kind_seen b.writers.items k ∙ same-kind (writer_at a k) (writer_at b k) (p.writers k) ∙ sym (at_line-end kind_seen a.writers.items k);
  writes = λ k. at_line-end writes_of b.writers.items k ∙ (same-writes (writer_at a k) (writer_at b k) (p.writers k)).0 ∙ sym (at_line-end writes_of a.writers.items k);
  reads = λ k. at_line-end reads_of b.readers.items k ∙ same-reads (reader_at a k) (reader_at b k) (p.readers k) ∙ sym (at_line-end reads_of a.readers.items k);
}

pub capacity-kept : (a b : Rings) (e : ℕ) → SameRings a b → capacity_at b e ≡ capacity_at a e
capacity-kept a b e p = at_line-end capacity_of b.writers.items e ∙ (same-writes (writer_at a e) (writer_at b e) (p.writers e)).1 ∙ sym (at_line-end capacity_of a.writers.items e)
