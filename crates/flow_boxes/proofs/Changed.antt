-- One box of a share, and the others.
use Rattle.std.proofs.Common.{◌≡◌, ◌≢◌, ℕ, zero, suc, ◌+◌, ◌<◌, ◌≤◌, true, false, cond, List, [], ◌∷◌, ◌++◌, length, refl, ap, subst, sym, ◌∙◌}
use Rattle.std.proofs.Common.{get_or, set, arith, length-set, length-append, append-nil, append_assoc, ◌⊎◌, inl, inr}
use Rattle.std.proofs.lemmas.Bool.{cases_eq, cases_Bool}
use Rattle.std.specs.Prelude.{Option, Some}
use mathlib.Core.List.{IsPrefix}
use Rattle.flow_messages.specs.declared.message.Kind.{Kind}
use Rattle.flow_messages.specs.declared.message.Msg.{Msg}
use Rattle.flow_messages.specs.Signals.{Signal, signals, signal_of, ended}
use Rattle.flow_messages.specs.Tables.{at_line}
use Rattle.flow_messages.specs.Ends.{LookedForRoom, LookedForMessages, Put, Taken, TakenAll, PutAll}
use Rattle.flow_messages.specs.Stores.{content_of}
use Rattle.flow_messages.specs.TableLaws.{signals-append, signals-length}
use Rattle.flow_messages.proofs.Signals.{signals-cons, signals-nil}
use Rattle.flow_messages.proofs.Tables.{at_line-here, at_line-same, at_line-other, at_line-kept, taken_one}
use Rattle.flow_boxes.specs.declared.outbox.Outbox.{Outbox}
use Rattle.flow_boxes.specs.declared.inbox.Inbox.{Inbox}
use Rattle.flow_boxes.specs.Contents.{Contents, contents_of, sent_in, leaving_in, room_in, writes_in, received_in, coming_in, reads_in}
use Rattle.flow_boxes.specs.Received.{received_of}
use Rattle.flow_boxes.specs.Putting.{PutsBlock}
use Rattle.flow_boxes.specs.Rounds.{SameBoxes, KeepsRound, GrowAlike, OthersSame}

-- a fact at e and at all others holds at every edge
pub everywhere : (P : ℕ → Type 0) (e : ℕ) → P e → ((k : ℕ) → k ≢ e → P k) → (k : ℕ) → P k
everywhere P e here others k = by_cases (cases_eq k e) where
  by_cases : (k ≡ e) ⊎ (k ≡ e → ⊥) → P k
  by_cases (inl at) = rw at here
  by_cases (inr ne) = others k ne

-- where a box is there, its number is below the count
pub writer-below : (os : List (Option Outbox)) (e : ℕ) → at_line writes_in os e false ≡ true → e < length os
writer-below [] e h = cc
writer-below (o ∷ os) zero h = omega arith
writer-below (o ∷ os) (suc e) h = omega (arith, writer-below os e h)

pub reader-below : (is : List (Option Inbox)) (e : ℕ) → at_line reads_in is e false ≡ true → e < length is
reader-below [] e h = cc
reader-below (i ∷ is) zero h = omega arith
reader-below (i ∷ is) (suc e) h = omega (arith, reader-below is e h)

-- what one message says
pub said_one : (m : Msg) → signals (m ∷ []) ≡ signal_of m ∷ []
said_one m = signals-cons m [] ∙ ap (λ (l : List Signal). signal_of m ∷ l) signals-nil

-- the first messages that a box holds are the first that are certain to come
pub begins : (ms held : List Msg) (said coming : List Signal) → IsPrefix ms held → signals ms ≡ said → coming ≡ signals held → IsPrefix said coming
begins ms held said coming (more, all) is certain = (signals more, ap (λ (l : List Signal). l ++ signals more) (sym is) ∙ sym (signals-append ms more) ∙ ap signals all ∙ sym certain)

grow_none : (s q s' q' : List Signal) → s' ≡ s → q' ≡ q → GrowAlike s q s' q'
grow_none s q s' q' i j = ([], i ∙ sym (append-nil s), j ∙ sym (append-nil q))

module _ (capacity : ℕ) (kinds : List Kind) (os : List (Option Outbox)) (is : List (Option Inbox)) (e : ℕ) (old : Option Outbox) (o n : Outbox)
    (h : e < length os) (at : old ≡ get_or os e old) (was : old ≡ Some o) where
  abbrev before : Contents
  before = contents_of capacity kinds os is

  abbrev after : Contents
  after = contents_of capacity kinds (set os e (Some n)) is

  pub writer_boxes : SameBoxes before after
  writer_boxes = record {
    ends = record { kinds = λ k. refl; writes = at_line-kept writes_in os e false old (Some n) h at (sym (ap writes_in was)); reads = λ k. refl };
    count = length-set os e (Some n);
    capacity = refl;
  }

  pub had_sent : before.ends.sent e ≡ signals o.sent.items
  had_sent = at_line-here sent_in os e [] old h at ∙ ap sent_in was

  pub had_leaving : before.leaving e ≡ signals (content_of o.store)
  had_leaving = at_line-here leaving_in os e [] old h at ∙ ap leaving_in was

  pub had_room : before.ends.room e ≡ o.room
  had_room = at_line-here room_in os e 0 old h at ∙ ap room_in was

  pub has_sent : after.ends.sent e ≡ signals n.sent.items
  has_sent = at_line-same sent_in os e [] (Some n) h

  pub has_leaving : after.leaving e ≡ signals (content_of n.store)
  has_leaving = at_line-same leaving_in os e [] (Some n) h

  pub has_room : after.ends.room e ≡ n.room
  has_room = at_line-same room_in os e 0 (Some n) h

  pub writer_others : OthersSame e before after
  writer_others = record {
    writes = λ k ne. writer_boxes.ends.writes k;
    reads = λ k ne. refl;
    sent = at_line-other sent_in os e [] (Some n);
    received = λ k ne. refl;
    coming = λ k ne. refl;
    room = at_line-other room_in os e 0 (Some n);
    leaving = at_line-other leaving_in os e [] (Some n);
    kinds = λ k. refl;
    count = writer_boxes.count;
    capacity = refl;
  }

  -- these messages were put, and each took one place
  module _ (ms : List Msg) (sent : n.sent.items ≡ o.sent.items ++ ms) (held : content_of n.store ≡ content_of o.store ++ ms) (room : n.room + length ms ≡ o.room) where
    sent_more : after.ends.sent e ≡ before.ends.sent e ++ signals ms
    sent_more = has_sent ∙ ap signals sent ∙ signals-append o.sent.items ms ∙ ap (λ (x : List Signal). x ++ signals ms) (sym had_sent)

    leaving_more : after.leaving e ≡ before.leaving e ++ signals ms
    leaving_more = has_leaving ∙ ap signals held ∙ signals-append (content_of o.store) ms ∙ ap (λ (x : List Signal). x ++ signals ms) (sym had_leaving)

    pub put-keeps : KeepsRound before after
    put-keeps = record {
      boxes = writer_boxes;
      arrived = λ k. refl;
      received = λ k. omega arith;
      sent = everywhere (λ k. GrowAlike (before.ends.sent k) (before.leaving k) (after.ends.sent k) (after.leaving k)) e
          (signals ms, sent_more, leaving_more)
          (λ k ne. grow_none _ _ _ _ (writer_others.sent k ne) (writer_others.leaving k ne));
      places = everywhere (λ k. length (before.ends.sent k) + before.ends.room k ≡ length (after.ends.sent k) + after.ends.room k) e
          (let longer = ap length sent_more ∙ length-append (before.ends.sent e) (signals ms) in omega (arith, longer, signals-length ms, room, had_room, has_room))
          (λ k ne. omega (arith, ap length (writer_others.sent k ne), writer_others.room k ne));
    }

  pub writer-put : (m : Msg) → n.sent.items ≡ o.sent.items ++ m ∷ [] → content_of n.store ≡ content_of o.store ++ m ∷ [] → n.room + 1 ≡ o.room → Put before.ends e (signal_of m) after.ends
  writer-put m sent held room = record {
    ends = writer_boxes.ends;
    sent = sent_more (m ∷ []) sent held room ∙ ap (λ (x : List Signal). before.ends.sent e ++ x) (said_one m);
    others = writer_others.sent;
    received = λ k. refl;
    coming = λ k ne. refl;
    coming_here = ([], append-nil (before.ends.coming e));
    room = writer_others.room;
    room_here = omega (arith, room, had_room, has_room);
  }

  module _ (sent : n.sent.items ≡ o.sent.items) (held : content_of n.store ≡ content_of o.store) (room : n.room ≡ o.room) where
    all_sent : (k : ℕ) → after.ends.sent k ≡ before.ends.sent k
    all_sent = everywhere (λ k. after.ends.sent k ≡ before.ends.sent k) e (has_sent ∙ ap signals sent ∙ sym had_sent) writer_others.sent

    all_leaving : (k : ℕ) → after.leaving k ≡ before.leaving k
    all_leaving = everywhere (λ k. after.leaving k ≡ before.leaving k) e (has_leaving ∙ ap signals held ∙ sym had_leaving) writer_others.leaving

    all_room : (k : ℕ) → after.ends.room k ≡ before.ends.room k
    all_room = everywhere (λ k. after.ends.room k ≡ before.ends.room k) e (has_room ∙ room ∙ sym had_room) writer_others.room

    pub writer-kept : LookedForRoom before.ends e after.ends
    writer-kept = record {
      ends = writer_boxes.ends;
      traffic = record { sent = all_sent; received = λ k. refl };
      coming = λ k. refl;
      room = writer_others.room;
      more = omega (arith, all_room e);
    }

    pub refused-keeps : KeepsRound before after
    refused-keeps = record {
      boxes = writer_boxes;
      arrived = λ k. refl;
      received = λ k. omega arith;
      sent = λ k. grow_none _ _ _ _ (all_sent k) (all_leaving k);
      places = λ k. omega (arith, ap length (all_sent k), all_room k);
    }

  -- a block was put, unless `End` was put before
  module _ (ms : List Msg) (puts : PutsBlock ms o n) where
    here : ended (before.ends.sent e) ≡ ended (signals o.sent.items)
    here = ap ended had_sent

    abbrev Ends : Type 0
    Ends = (ended (signals o.sent.items) ≡ true) ⊎ (ended (signals o.sent.items) ≡ false)

    shut_sent : ended (signals o.sent.items) ≡ true → n.sent.items ≡ o.sent.items
    shut_sent shut = puts.sent ∙ ap (λ b. cond b o.sent.items (o.sent.items ++ ms)) shut

    shut_held : ended (signals o.sent.items) ≡ true → content_of n.store ≡ content_of o.store
    shut_held shut = puts.held ∙ ap (λ b. cond b (content_of o.store) (content_of o.store ++ ms)) shut

    shut_room : ended (signals o.sent.items) ≡ true → n.room ≡ o.room
    shut_room shut = let none = ap (λ b. cond b 0 (length ms)) shut in omega (arith, puts.room, none)

    free_sent : ended (signals o.sent.items) ≡ false → n.sent.items ≡ o.sent.items ++ ms
    free_sent free = puts.sent ∙ ap (λ b. cond b o.sent.items (o.sent.items ++ ms)) free

    free_held : ended (signals o.sent.items) ≡ false → content_of n.store ≡ content_of o.store ++ ms
    free_held free = puts.held ∙ ap (λ b. cond b (content_of o.store) (content_of o.store ++ ms)) free

    free_room : ended (signals o.sent.items) ≡ false → n.room + length ms ≡ o.room
    free_room free = let all = ap (λ b. cond b 0 (length ms)) free in omega (arith, puts.room, all)

    pub block-keeps : KeepsRound before after
    block-keeps = by_end (cases_Bool (ended (signals o.sent.items))) where
      by_end : Ends → KeepsRound before after
      by_end (inl shut) = refused-keeps (shut_sent shut) (shut_held shut) (shut_room shut)
      by_end (inr free) = put-keeps ms (free_sent free) (free_held free) (free_room free)

    pub writer-put_all : PutAll before.ends e (signals ms) after.ends
    writer-put_all = record {
      ends = writer_boxes.ends;
      sent = by_end (cases_Bool (ended (signals o.sent.items)));
      others = writer_others.sent;
      received = λ k. refl;
      coming = λ k ne. refl;
      coming_here = ([], append-nil (before.ends.coming e));
      room = writer_others.room;
      room_here = room_by_end (cases_Bool (ended (signals o.sent.items)));
    } where
      by_end : Ends → after.ends.sent e ≡ cond (ended (before.ends.sent e)) (before.ends.sent e) (before.ends.sent e ++ signals ms)
      by_end (inl shut) = all_sent (shut_sent shut) (shut_held shut) (shut_room shut) e ∙ ap (λ b. cond b (before.ends.sent e) (before.ends.sent e ++ signals ms)) (sym (here ∙ shut))
      by_end (inr free) = sent_more ms (free_sent free) (free_held free) (free_room free) ∙ ap (λ b. cond b (before.ends.sent e) (before.ends.sent e ++ signals ms)) (sym (here ∙ free))

      room_by_end : Ends → before.ends.room e ≤ after.ends.room e + length (signals ms)
      room_by_end (inl shut) = omega (arith, shut_room shut, had_room, has_room)
      room_by_end (inr free) = omega (arith, free_room free, had_room, has_room, signals-length ms)

module _ (capacity : ℕ) (kinds : List Kind) (os : List (Option Outbox)) (is : List (Option Inbox)) (e : ℕ) (old : Option Inbox) (i n : Inbox)
    (h : e < length is) (at : old ≡ get_or is e old) (was : old ≡ Some i) where
  abbrev from : Contents
  from = contents_of capacity kinds os is

  abbrev till : Contents
  till = contents_of capacity kinds os (set is e (Some n))

  pub reader_boxes : SameBoxes from till
  reader_boxes = record {
    ends = record { kinds = λ k. refl; reads = at_line-kept reads_in is e false old (Some n) h at (sym (ap reads_in was)); writes = λ k. refl };
    count = refl;
    capacity = refl;
  }

  pub had_received : from.ends.received e ≡ signals (received_of i)
  had_received = at_line-here received_in is e [] old h at ∙ ap received_in was

  pub had_coming : from.ends.coming e ≡ signals (content_of i.store)
  had_coming = at_line-here coming_in is e [] old h at ∙ ap coming_in was

  pub has_received : till.ends.received e ≡ signals (received_of n)
  has_received = at_line-same received_in is e [] (Some n) h

  pub has_coming : till.ends.coming e ≡ signals (content_of n.store)
  has_coming = at_line-same coming_in is e [] (Some n) h

  pub reader_others : OthersSame e from till
  reader_others = record {
    writes = λ k ne. refl;
    reads = λ k ne. reader_boxes.ends.reads k;
    sent = λ k ne. refl;
    received = at_line-other received_in is e [] (Some n);
    coming = at_line-other coming_in is e [] (Some n);
    room = λ k ne. refl;
    leaving = λ k ne. refl;
    kinds = λ k. refl;
    count = refl;
    capacity = refl;
  }

  pub all_received : received_of n ≡ received_of i → (k : ℕ) → till.ends.received k ≡ from.ends.received k
  all_received same = everywhere (λ k. till.ends.received k ≡ from.ends.received k) e (has_received ∙ ap signals same ∙ sym had_received) reader_others.received

  -- these messages were taken
  module _ (ms : List Msg) (received : received_of n ≡ received_of i ++ ms) (held : content_of i.store ≡ ms ++ content_of n.store) where
    received_more : till.ends.received e ≡ from.ends.received e ++ signals ms
    received_more = has_received ∙ ap signals received ∙ signals-append (received_of i) ms ∙ ap (λ (x : List Signal). x ++ signals ms) (sym had_received)

    coming_less : from.ends.coming e ≡ signals ms ++ till.ends.coming e
    coming_less = had_coming ∙ ap signals held ∙ signals-append ms (content_of n.store) ∙ ap (λ (x : List Signal). signals ms ++ x) (sym has_coming)

    pub reader-taken_all : TakenAll from.ends e (signals ms) till.ends
    reader-taken_all = record {
      ends = reader_boxes.ends;
      received = received_more;
      others = reader_others.received;
      sent = λ k. refl;
      room = λ k ne. refl;
      room_here = omega arith;
      coming = reader_others.coming;
      coming_here = ([], append-nil (from.ends.coming e) ∙ coming_less);
    }

    pub take-keeps : KeepsRound from till
    take-keeps = record {
      boxes = reader_boxes;
      arrived = everywhere (λ k. from.ends.received k ++ from.ends.coming k ≡ till.ends.received k ++ till.ends.coming k) e
          (ap (λ (x : List Signal). from.ends.received e ++ x) coming_less
          ∙ sym (append_assoc (from.ends.received e) (signals ms) (till.ends.coming e))
          ∙ ap (λ (x : List Signal). x ++ till.ends.coming e) (sym received_more))
          (λ k ne. ap (λ (x : List Signal). x ++ from.ends.coming k) (sym (reader_others.received k ne)) ∙ ap (λ (x : List Signal). till.ends.received k ++ x) (sym (reader_others.coming k ne)));
      received = everywhere (λ k. length (from.ends.received k) ≤ length (till.ends.received k)) e
          (let longer = ap length received_more ∙ length-append (from.ends.received e) (signals ms) in omega (arith, longer))
          (λ k ne. omega (arith, ap length (reader_others.received k ne)));
      sent = λ k. grow_none _ _ _ _ refl refl;
      places = λ k. refl;
    }

  pub reader-taken : (m : Msg) → received_of n ≡ received_of i ++ m ∷ [] → content_of i.store ≡ m ∷ content_of n.store → Taken from.ends e (signal_of m) till.ends
  reader-taken m received held = taken_one from.ends till.ends e (signal_of m) (subst (λ (l : List Signal). TakenAll from.ends e l till.ends) (said_one m) (reader-taken_all (m ∷ []) received held))

  module _ (received : received_of n ≡ received_of i) (held : content_of n.store ≡ content_of i.store) where
    all_coming : (k : ℕ) → till.ends.coming k ≡ from.ends.coming k
    all_coming = everywhere (λ k. till.ends.coming k ≡ from.ends.coming k) e (has_coming ∙ ap signals held ∙ sym had_coming) reader_others.coming

    pub reader-kept : LookedForMessages from.ends e till.ends
    reader-kept = record {
      ends = reader_boxes.ends;
      traffic = record { sent = λ k. refl; received = all_received received };
      room = λ k. refl;
      coming = λ k ne. all_coming k;
      more = ([], append-nil (from.ends.coming e) ∙ sym (all_coming e));
    }

    pub none-keeps : KeepsRound from till
    none-keeps = record {
      boxes = reader_boxes;
      arrived = λ k. ap (λ (x : List Signal). x ++ from.ends.coming k) (sym (all_received received k)) ∙ ap (λ (x : List Signal). till.ends.received k ++ x) (sym (all_coming k));
      received = λ k. omega (arith, ap length (all_received received k));
      sent = λ k. grow_none _ _ _ _ refl refl;
      places = λ k. refl;
    }
