-- What opening an edge makes of boxes and of rings.
use Rattle.std.proofs.Common.{◌≡◌, ℕ, zero, suc, ◌<◌, true, false, List, [], ◌∷◌, length, refl, ap, sym, ◌∙◌, subst, get_or, set, get_or-set_other, length-set}
use Rattle.std.specs.Prelude.{Option, Some, None}
use Rattle.flow_messages.specs.Signals.{signals}
use Rattle.flow_messages.specs.declared.message.Kind.{Kind}
use Rattle.flow_messages.specs.Kinds.{TakesKind}
use Rattle.flow_messages.specs.Ends.{View}
use Rattle.flow_messages.proofs.Fitting.{takes_own}
use Rattle.flow_messages.proofs.Signals.{signals-nil}
use Rattle.flow_messages.proofs.Tables.{at_line-same, at_line-other}
use Rattle.flow_boxes.specs.Contents.{Contents}
use Rattle.flow_boxes.specs.Rounds.{IsLinked, OthersSame, OpensWriter, OpensReader}
use Rattle.flow_boxes.proofs.Linking.{fresh-linked, outbox-beside}
use Rattle.flow_edges.specs.declared.lanes.ends.LaneWriter.{LaneWriter}
use Rattle.flow_edges.specs.declared.lanes.ends.LaneReader.{LaneReader}
use Rattle.flow_edges.specs.lanes.Lane.{kind_of, sent, received, certain_room, certain_held}
use Rattle.flow_edges.specs.declared.lanes.rings.Rings.{Rings}
use Rattle.flow_edges.specs.lanes.Rings.{kind_seen, sent_of, room_of, writes_of, received_of, coming_of, reads_of, view_of_rings, ends_of}
use Rattle.flow_shares.specs.meetings.Opens.{ElsewhereSame, OpensAt}
use Rattle.flow_shares.specs.meetings.RingOpenings.{RingsOpen}

-- a writer's end, and then a reader's, of one edge
pub both_opened : (e : ℕ) (kind : Kind) (capacity : ℕ) (a m b : View) → OpensAt e kind capacity true false a m → OpensAt e kind capacity false true m b → OpensAt e kind capacity true true a b
both_opened e kind capacity a m b w r = record {
  elsewhere = record {
    writes = λ k ne. r.elsewhere.writes k ne ∙ w.elsewhere.writes k ne;
    reads = λ k ne. r.elsewhere.reads k ne ∙ w.elsewhere.reads k ne;
    sent = λ k ne. r.elsewhere.sent k ne ∙ w.elsewhere.sent k ne;
    received = λ k ne. r.elsewhere.received k ne ∙ w.elsewhere.received k ne;
    coming = λ k ne. r.elsewhere.coming k ne ∙ w.elsewhere.coming k ne;
    room = λ k ne. r.elsewhere.room k ne ∙ w.elsewhere.room k ne;
    kind = λ k ne. r.elsewhere.kind k ne ∙ w.elsewhere.kind k ne;
  };
  writes = r.writes ∙ w.writes;
  sent = r.sent ∙ w.sent;
  room = r.room ∙ w.room;
  takes = λ h. subst (λ of. TakesKind of kind) (sym (r.same_kind refl)) (w.takes refl);
  same_kind = λ h. absurd (cc);
  reads = r.reads;
  received = r.received;
  coming = r.coming;
}

module _ (e : ℕ) where
  elsewhere : (a b : Contents) → OthersSame e a b → ElsewhereSame e a.ends b.ends
  elsewhere a b o = record { writes = o.writes; reads = o.reads; sent = o.sent; received = o.received; coming = o.coming; room = o.room; kind = λ k ne. o.kinds k }

  pub others_then : (a m b : Contents) → OthersSame e a m → OthersSame e m b → OthersSame e a b
  others_then a m b p q = record {
    writes = λ k ne. q.writes k ne ∙ p.writes k ne;
    reads = λ k ne. q.reads k ne ∙ p.reads k ne;
    sent = λ k ne. q.sent k ne ∙ p.sent k ne;
    received = λ k ne. q.received k ne ∙ p.received k ne;
    coming = λ k ne. q.coming k ne ∙ p.coming k ne;
    room = λ k ne. q.room k ne ∙ p.room k ne;
    leaving = λ k ne. q.leaving k ne ∙ p.leaving k ne;
    kinds = λ k. q.kinds k ∙ p.kinds k;
    count = q.count ∙ p.count;
    capacity = q.capacity ∙ p.capacity;
  }

  module _ (kind : Kind) (capacity : ℕ) (a b : Contents) where
    pub box_writer : a.ends.kind e ≡ Some kind → a.capacity ≡ capacity → OpensWriter e a b → OpensAt e kind capacity true false a.ends b.ends
    box_writer of is o = record {
      elsewhere = elsewhere a b o.others;
      writes = o.fresh.writes;
      sent = o.fresh.sent;
      room = o.fresh.room ∙ o.others.capacity ∙ is;
      takes = λ h. subst (λ of. TakesKind of kind) (sym (o.others.kinds e ∙ of)) ((takes_own kind kind).1 refl);
      same_kind = λ h. absurd (cc);
      reads = o.reads e;
      received = o.received e;
      coming = o.coming e;
    }

    pub box_reader : OpensReader e a b → OpensAt e kind capacity false true a.ends b.ends
    box_reader o = record {
      elsewhere = elsewhere a b o.others;
      writes = o.writes e;
      sent = o.sent e;
      room = o.room e;
      takes = λ h. absurd (cc);
      same_kind = λ h. o.others.kinds e;
      reads = o.fresh.reads;
      received = o.fresh.received;
      coming = o.fresh.coming;
    }

  pub box_both : (kind : Kind) (capacity : ℕ) (a m b : Contents) → a.ends.kind e ≡ Some kind → a.capacity ≡ capacity → OpensWriter e a m → OpensReader e m b →
      OpensAt e kind capacity true true a.ends b.ends
  box_both kind capacity a m b of is w r = both_opened e kind capacity a.ends m.ends b.ends (box_writer kind capacity a m of is w) (box_reader kind capacity m b r)

  -- boxes that were opened with one kind and one capacity are linked
  pub opened_linked : (a w b r : Contents) → b.ends.kind e ≡ a.ends.kind e → b.capacity ≡ a.capacity → OpensWriter e a w → OpensReader e b r → IsLinked w r e
  opened_linked a w b r alike same writer reader =
      fresh-linked w r e writer.fresh reader.fresh (reader.others.capacity ∙ same ∙ sym writer.others.capacity)
      (reader.others.kinds e ∙ alike ∙ sym (writer.others.kinds e))

  pub both_linked : (a m b : Contents) → OpensWriter e a m → OpensReader e m b → IsLinked b b e
  both_linked a m b writer reader = fresh-linked b b e (outbox-beside m b e e writer.fresh reader) reader.fresh refl refl

-- where no end is seen, none is there
pub no_writer_there : (ws : List (Option LaneWriter)) (rs : List (Option LaneReader)) (e : ℕ) → (view_of_rings ws rs).writes e ≡ false → get_or ws e None ≡ None
no_writer_there [] rs e none = refl
no_writer_there (None ∷ ws) rs zero none = refl
no_writer_there (Some w ∷ ws) rs zero none = cc
no_writer_there (w ∷ ws) rs (suc e) none = no_writer_there ws rs e none

pub no_reader_there : (ws : List (Option LaneWriter)) (rs : List (Option LaneReader)) (e : ℕ) → (view_of_rings ws rs).reads e ≡ false → get_or rs e None ≡ None
no_reader_there ws [] e none = refl
no_reader_there ws (None ∷ rs) zero none = refl
no_reader_there ws (Some r ∷ rs) zero none = cc
no_reader_there ws (r ∷ rs) (suc e) none = no_reader_there ws rs e none

-- a writer is put among rings, and a reader
module _ (ws : List (Option LaneWriter)) (rs : List (Option LaneReader)) (e : ℕ) (kind : Kind) (capacity : ℕ) where
  module _ (w : LaneWriter) (h : e < length ws) (none : sent w ≡ []) (room : certain_room w ≡ capacity) (takes : TakesKind (kind_of w) kind) where
    pub ring_writer : OpensAt e kind capacity true false (view_of_rings ws rs) (view_of_rings (set ws e (Some w)) rs)
    ring_writer = record {
      elsewhere = record {
        writes = at_line-other writes_of ws e false (Some w);
        reads = λ k ne. refl;
        sent = at_line-other sent_of ws e [] (Some w);
        received = λ k ne. refl;
        coming = λ k ne. refl;
        room = at_line-other room_of ws e 0 (Some w);
        kind = at_line-other kind_seen ws e None (Some w);
      };
      takes = λ t. subst (λ of. TakesKind of kind) (sym (at_line-same kind_seen ws e None (Some w) h)) takes;
      same_kind = λ f. absurd (cc);
      writes = at_line-same writes_of ws e false (Some w) h;
      sent = at_line-same sent_of ws e [] (Some w) h ∙ ap signals none ∙ signals-nil;
      room = at_line-same room_of ws e 0 (Some w) h ∙ room;
      reads = refl;
      received = refl;
      coming = refl;
    }

  module _ (r : LaneReader) (h : e < length rs) (none : received r ≡ []) (empty : certain_held r ≡ []) where
    pub ring_reader : OpensAt e kind capacity false true (view_of_rings ws rs) (view_of_rings ws (set rs e (Some r)))
    ring_reader = record {
      elsewhere = record {
        writes = λ k ne. refl;
        reads = at_line-other reads_of rs e false (Some r);
        sent = λ k ne. refl;
        received = at_line-other received_of rs e [] (Some r);
        coming = at_line-other coming_of rs e [] (Some r);
        room = λ k ne. refl;
        kind = λ k ne. refl;
      };
      takes = λ t. absurd (cc);
      same_kind = λ f. refl;
      writes = refl;
      sent = refl;
      room = refl;
      reads = at_line-same reads_of rs e false (Some r) h;
      received = at_line-same received_of rs e [] (Some r) h ∙ ap signals none ∙ signals-nil;
      coming = at_line-same coming_of rs e [] (Some r) h ∙ ap signals empty ∙ signals-nil;
    }

pub rings_then : (e : ℕ) (a m b : Rings) → RingsOpen e a m → RingsOpen e m b → RingsOpen e a b
rings_then e a m b p q = record {
  writer_count = q.writer_count ∙ p.writer_count;
  reader_count = q.reader_count ∙ p.reader_count;
  writers = λ k ne. q.writers k ne ∙ p.writers k ne;
  readers = λ k ne. q.readers k ne ∙ p.readers k ne;
}

module _ (a b : Rings) (e : ℕ) (kind : Kind) (capacity : ℕ) where
  pub rings_writer : (w : LaneWriter) → b.writers.items ≡ set a.writers.items e (Some w) → b.readers.items ≡ a.readers.items →
      e < length a.writers.items → sent w ≡ [] → certain_room w ≡ capacity → TakesKind (kind_of w) kind → RingsOpen e a b
      × OpensAt e kind capacity true false (ends_of a) (ends_of b)
  rings_writer w put same h none room takes = (
    record {
      writer_count = ap length put ∙ length-set a.writers.items e (Some w);
      reader_count = ap length same;
      writers = λ k ne. ap (λ l. get_or l k None) put ∙ get_or-set_other a.writers.items e k (Some w) None ne;
      readers = λ k ne. ap (λ l. get_or l k None) same;
    },
    subst (λ ws. OpensAt e kind capacity true false (ends_of a) (view_of_rings ws b.readers.items)) (sym put)
        (subst (λ rs. OpensAt e kind capacity true false (ends_of a) (view_of_rings (set a.writers.items e (Some w)) rs)) (sym same)
        (ring_writer a.writers.items a.readers.items e kind capacity w h none room takes)),
  )

  pub rings_reader : (r : LaneReader) → b.readers.items ≡ set a.readers.items e (Some r) → b.writers.items ≡ a.writers.items →
      e < length a.readers.items → received r ≡ [] → certain_held r ≡ [] → RingsOpen e a b × OpensAt e kind capacity false true (ends_of a) (ends_of b)
  rings_reader r put same h none empty = (
    record {
      writer_count = ap length same;
      reader_count = ap length put ∙ length-set a.readers.items e (Some r);
      writers = λ k ne. ap (λ l. get_or l k None) same;
      readers = λ k ne. ap (λ l. get_or l k None) put ∙ get_or-set_other a.readers.items e k (Some r) None ne;
    },
    subst (λ rs. OpensAt e kind capacity false true (ends_of a) (view_of_rings b.writers.items rs)) (sym put)
        (subst (λ ws. OpensAt e kind capacity false true (ends_of a) (view_of_rings ws (set a.readers.items e (Some r)))) (sym same)
        (ring_reader a.writers.items a.readers.items e kind capacity r h none empty)),
  )
