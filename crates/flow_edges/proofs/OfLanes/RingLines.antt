-- One end of a share's rings, and the others.
use Rattle.std.proofs.Common.{◌≡◌, ℕ, zero, suc, ◌+◌, ◌<◌, ◌≤◌, Bool, true, false, List, [], ◌∷◌, ◌++◌, length, refl, ap, sym, ◌∙◌, cond, get_or, set, subst, arith, append-nil, inl, inr, ◌⊎◌}
use Rattle.std.proofs.lemmas.Bool.{cases_Bool}
use Rattle.std.proofs.Math.Path.{fun_ext}
use Rattle.std.specs.Prelude.{Option, Some, None}
use mathlib.Core.List.{IsPrefix}
use Rattle.flow_messages.specs.declared.message.Msg.{Msg}
use Rattle.flow_messages.specs.Signals.{Signal, signals, signal_of, ended}
use Rattle.flow_messages.specs.declared.message.Kind.{Kind}
use Rattle.flow_messages.specs.declared.items.Items.{Items}
use Rattle.flow_messages.specs.Blocks.{item_signals}
use Rattle.flow_messages.specs.Contents.{item_messages}
use Rattle.flow_messages.specs.Ends.{View, held, SameEnds, LookedForRoom, LookedForMessages, Put, Taken, TakenAll, PutAll}
use Rattle.flow_messages.specs.Kinds.{TakesItems}
use Rattle.flow_messages.specs.Tables.{at_line}
use Rattle.flow_messages.specs.TableLaws.{signals-length}
use Rattle.flow_messages.proofs.Signals.{signals-nil, signals-cons, signals-snoc}
use Rattle.flow_messages.proofs.SideBySide.{length-items, signals-items}
use Rattle.flow_messages.proofs.Tables.{at_line-here, at_line-same, at_line-other, at_line-kept}
use Rattle.flow_edges.specs.declared.lanes.ends.LaneWriter.{LaneWriter}
use Rattle.flow_edges.specs.declared.lanes.ends.LaneReader.{LaneReader}
use Rattle.flow_words.specs.Edge.{followed_unless_ended}
use Rattle.flow_edges.proofs.OfLanes.Followed.{followed_shut, followed_free}
use Rattle.flow_edges.specs.lanes.Lane.{sent, received, certain_room, certain_held, kind_of, PutsAll, SameWriter}
use Rattle.flow_edges.specs.lanes.SameLanes.{same_kind, same_writer_refl}
use Rattle.flow_edges.specs.lanes.Rings.{kind_seen, sent_of, room_of, writes_of, received_of, coming_of, reads_of, view_of_rings}

pub signals-append : (ms ns : List Msg) → signals (ms ++ ns) ≡ signals ms ++ signals ns
unfolding signals
signals-append [] ns = refl
signals-append (m ∷ ms) ns = ap (λ l. signal_of m ∷ l) (signals-append ms ns)

-- what begins a list of messages begins what they say
pub signals-prefix : (ms ns : List Msg) → IsPrefix ms ns → IsPrefix (signals ms) (signals ns)
signals-prefix ms ns p = (signals p.0, sym (signals-append ms p.0) ∙ ap signals p.1)

-- what many puts leave says what they say, and what was put before
signals-followed : (before ms : List Msg) → signals (followed_unless_ended before ms) ≡ cond (ended (signals before)) (signals before) (signals before ++ signals ms)
signals-followed before ms = by_end (cases_Bool (ended (signals before))) where
  by_end : (ended (signals before) ≡ true) ⊎ (ended (signals before) ≡ false) → signals (followed_unless_ended before ms)
      ≡ cond (ended (signals before)) (signals before) (signals before ++ signals ms)
  by_end (inl shut) = ap signals (followed_shut before ms shut) ∙ sym (ap (λ b. cond b (signals before) (signals before ++ signals ms)) shut)
  by_end (inr free) = ap signals (followed_free before ms free) ∙ signals-append before ms ∙ sym (ap (λ b. cond b (signals before) (signals before ++ signals ms)) free)

module _ (ws : List (Option LaneWriter)) (rs : List (Option LaneReader)) (e : ℕ) (old : Option LaneWriter) (w v : LaneWriter) (h : e < length ws)
    (is : old ≡ get_or ws e old) (was : old ≡ Some w) (alike : SameWriter w v) where
  abbrev before : View
  before = view_of_rings ws rs

  abbrev after : View
  after = view_of_rings (set ws e (Some v)) rs

  writer_ends : SameEnds before after
  writer_ends = record {
    kinds = at_line-kept kind_seen ws e None old (Some v) h is (same_kind w v alike ∙ sym (ap kind_seen was));
    writes =
        at_line-kept writes_of ws e false old (Some v) h is (sym (ap writes_of was));
    reads = λ k. refl;
  }

  pub writer-room : after.room e ≡ certain_room v
  writer-room = at_line-same room_of ws e 0 (Some v) h

  pub had_kind : before.kind e ≡ kind_of w
  had_kind = at_line-here kind_seen ws e None old h is ∙ ap kind_seen was

  pub had_room : before.room e ≡ certain_room w
  had_room = at_line-here room_of ws e 0 old h is ∙ ap room_of was

  pub had_sent : before.sent e ≡ signals (sent w)
  had_sent = at_line-here sent_of ws e [] old h is ∙ ap sent_of was

  pub writer-put : (m : Msg) → sent v ≡ sent w ++ m ∷ [] → certain_room w ≤ certain_room v + 1 → Put before e (signal_of m) after
  writer-put m grown room = record {
    ends = writer_ends;
    sent = at_line-same sent_of ws e [] (Some v) h ∙ ap signals grown ∙ signals-snoc (sent w) m ∙ ap (λ xs. xs ++ signal_of m ∷ []) (sym had_sent);
    others = at_line-other sent_of ws e [] (Some v);
    received = λ k. refl;
    coming = λ k _. refl;
    coming_here = ([], append-nil (before.coming e));
    room = at_line-other room_of ws e 0 (Some v);
    room_here = omega (arith, writer-room, had_room);
  }

  pub writer-put_all : (ms : List Msg) → sent v ≡ followed_unless_ended (sent w) ms → certain_room w ≤ certain_room v + length ms → PutAll before e (signals ms) after
  writer-put_all ms grown room = record {
    ends = writer_ends;
    sent = at_line-same sent_of ws e [] (Some v) h ∙ ap signals grown ∙ signals-followed (sent w) ms ∙ ap (λ l. cond (ended l) l (l ++ signals ms)) (sym had_sent);
    others = at_line-other sent_of ws e [] (Some v);
    received = λ k. refl;
    coming = λ k _. refl;
    coming_here = ([], append-nil (before.coming e));
    room = at_line-other room_of ws e 0 (Some v);
    room_here = omega (arith, room, writer-room, had_room, signals-length ms);
  }

  pub writer-looked : sent v ≡ sent w → certain_room w ≤ certain_room v → LookedForRoom before e after
  writer-looked kept room = record {
    ends = writer_ends;
    traffic = record { sent = at_line-kept sent_of ws e [] old (Some v) h is (ap signals kept ∙ sym (ap sent_of was)); received = λ k. refl };
    coming = λ k. refl;
    room = at_line-other room_of ws e 0 (Some v);
    more = omega (arith, writer-room, had_room);
  }

  -- where all that counts of the writer is as it was, the view is too
  pub writer-kept : sent v ≡ sent w → certain_room v ≡ certain_room w → after ≡ before
  writer-kept put room =
      let by_sent : (ℕ → List Signal) → View =
      λ s. record {
        sent = s;
        received = before.received;
        coming = before.coming;
        room = after.room;
        kind = after.kind;
        writes = after.writes;
        reads = before.reads;
      } in
      let by_room : (ℕ → ℕ) → View = λ r. record { sent = before.sent; received = before.received; coming = before.coming; room = r; kind = after.kind; writes = after.writes; reads = before.reads } in
      let by_kind : (ℕ → Option Kind) → View =
      λ k. record {
        sent = before.sent;
        received = before.received;
        coming = before.coming;
        room = before.room;
        kind = k;
        writes = after.writes;
        reads = before.reads;
      } in
      let by_writes : (ℕ → Bool) → View =
      λ t. record {
        sent = before.sent;
        received = before.received;
        coming = before.coming;
        room = before.room;
        kind = before.kind;
        writes = t;
        reads = before.reads;
      } in
      ap by_sent (fun_ext (at_line-kept sent_of ws e [] old (Some v) h is (ap signals put ∙ sym (ap sent_of was))))
      ∙ ap by_room (fun_ext (at_line-kept room_of ws e 0 old (Some v) h is (room ∙ sym (ap room_of was))))
      ∙ ap by_kind (fun_ext writer_ends.kinds)
      ∙ ap by_writes (fun_ext writer_ends.writes)

module _ (ws : List (Option LaneWriter)) (rs : List (Option LaneReader)) (e : ℕ) (old : Option LaneReader) (r v : LaneReader) (h : e < length rs)
    (is : old ≡ get_or rs e old) (was : old ≡ Some r) where
  abbrev from : View
  from = view_of_rings ws rs

  abbrev till : View
  till = view_of_rings ws (set rs e (Some v))

  reader_ends : SameEnds from till
  reader_ends = record { kinds = λ k. refl; reads = at_line-kept reads_of rs e false old (Some v) h is (sym (ap reads_of was)); writes = λ k. refl }

  pub now_coming : till.coming e ≡ signals (certain_held v)
  now_coming = at_line-same coming_of rs e [] (Some v) h

  pub had_coming : from.coming e ≡ signals (certain_held r)
  had_coming = at_line-here coming_of rs e [] old h is ∙ ap coming_of was

  pub reader-held : held till e ≡ length (certain_held v)
  reader-held = ap length now_coming ∙ signals-length (certain_held v)

  pub had_received : from.received e ≡ signals (received r)
  had_received = at_line-here received_of rs e [] old h is ∙ ap received_of was

  pub had_held : held from e ≡ length (certain_held r)
  had_held = ap length had_coming ∙ signals-length (certain_held r)

  -- what begins what is certain to be held begins what is certain to come
  reader-begins : (ms : List Msg) (said : List Signal) → signals ms ≡ said → IsPrefix ms (certain_held r) → IsPrefix said (from.coming e)
  reader-begins ms said says first =
      let all = signals-prefix ms (certain_held r) first in
      (all.0, ap (λ l. l ++ all.0) (sym says) ∙ all.1 ∙ sym had_coming)

  pub reader-front : (m : Msg) → IsPrefix (m ∷ []) (certain_held r) → IsPrefix (signal_of m ∷ []) (from.coming e)
  reader-front m first = reader-begins (m ∷ []) (signal_of m ∷ []) (signals-cons m [] ∙ ap (λ l. signal_of m ∷ l) signals-nil) first

  pub reader-shown : (x : Items) → IsPrefix (item_messages x) (certain_held r) → IsPrefix (item_signals x) (from.coming e)
  reader-shown x first = reader-begins (item_messages x) (item_signals x) (signals-items x) first

  pub reader-empty : certain_held v ≡ [] → held till e ≡ 0
  reader-empty none = reader-held ∙ ap length none

  pub reader-taken : (m : Msg) → received v ≡ received r ++ m ∷ [] → IsPrefix (certain_held r) (m ∷ certain_held v) → Taken from e (signal_of m) till
  reader-taken m grown first =
      let said = signals-prefix (certain_held r) (m ∷ certain_held v) first in
      record {
        ends = reader_ends;
        received = at_line-same received_of rs e [] (Some v) h ∙ ap signals grown ∙ signals-snoc (received r) m ∙ ap (λ xs. xs ++ signal_of m ∷ []) (sym had_received);
        others = at_line-other received_of rs e [] (Some v);
        sent = λ k. refl;
        room = λ k _. refl;
        room_here = omega arith;
        coming = at_line-other coming_of rs e [] (Some v);
        coming_here = (said.0, ap (λ xs. xs ++ said.0) had_coming ∙ said.1 ∙ signals-cons m (certain_held v) ∙ ap (λ xs. signal_of m ∷ xs) (sym now_coming));
      }

  -- these messages were taken
  pub reader-taken_all : (ms : List Msg) → received v ≡ received r ++ ms → IsPrefix (certain_held r) (ms ++ certain_held v) → TakenAll from e (signals ms) till
  reader-taken_all ms grown first =
      let said = signals-prefix (certain_held r) (ms ++ certain_held v) first in
      record {
        ends = reader_ends;
        received = at_line-same received_of rs e [] (Some v) h ∙ ap signals grown ∙ signals-append (received r) ms ∙ ap (λ xs. xs ++ signals ms) (sym had_received);
        others = at_line-other received_of rs e [] (Some v);
        sent = λ k. refl;
        room = λ k _. refl;
        room_here = omega arith;
        coming = at_line-other coming_of rs e [] (Some v);
        coming_here = (said.0, ap (λ xs. xs ++ said.0) had_coming ∙ said.1 ∙ signals-append ms (certain_held v) ∙ ap (λ xs. signals ms ++ xs) (sym now_coming));
      }

  pub reader-looked : received v ≡ received r → IsPrefix (certain_held r) (certain_held v) → LookedForMessages from e till
  reader-looked kept more =
      let said = signals-prefix (certain_held r) (certain_held v) more in
      record {
        ends = reader_ends;
        traffic = record { received = at_line-kept received_of rs e [] old (Some v) h is (ap signals kept ∙ sym (ap received_of was)); sent = λ k. refl };
        room = λ k. refl;
        coming = at_line-other coming_of rs e [] (Some v);
        more = (said.0, ap (λ xs. xs ++ said.0) had_coming ∙ said.1 ∙ sym now_coming);
      }

  -- where all that counts of the reader is as it was, the view is too
  pub reader-kept : received v ≡ received r → certain_held v ≡ certain_held r → till ≡ from
  reader-kept taken held =
      let by_received : (ℕ → List Signal) → View =
      λ s. record {
        sent = from.sent;
        received = s;
        coming = till.coming;
        room = from.room;
        kind = from.kind;
        writes = from.writes;
        reads = till.reads;
      } in
      let by_coming : (ℕ → List Signal) → View =
      λ s. record {
        sent = from.sent;
        received = from.received;
        coming = s;
        room = from.room;
        kind = from.kind;
        writes = from.writes;
        reads = till.reads;
      } in
      let by_reads : (ℕ → Bool) → View =
      λ t. record {
        sent = from.sent;
        received = from.received;
        coming = from.coming;
        room = from.room;
        kind = from.kind;
        writes = from.writes;
        reads = t;
      } in
      ap by_received (fun_ext (at_line-kept received_of rs e [] old (Some v) h is (ap signals taken ∙ sym (ap received_of was))))
      ∙ ap by_coming (fun_ext (at_line-kept coming_of rs e [] old (Some v) h is (ap signals held ∙ sym (ap coming_of was))))
      ∙ ap by_reads (fun_ext reader_ends.reads)

-- where an end is there, the number is below the count
pub at_line-there : {L : Type 0} (f : L → Bool) (ls : List L) (e : ℕ) → at_line f ls e false ≡ true → e < length ls
at_line-there f [] e is = cc
at_line-there f (l ∷ ls) zero is = omega arith
at_line-there f (l ∷ ls) (suc e) is = omega (arith, at_line-there f ls e is)

module _ (ws : List (Option LaneWriter)) (rs : List (Option LaneReader)) (e : ℕ) (old : Option LaneWriter) (w : LaneWriter)
    (there : (view_of_rings ws rs).writes e ≡ true) (is : old ≡ get_or ws e old) (was : old ≡ Some w) where
  here : e < length ws
  here = at_line-there writes_of ws e there

  -- items that the edge takes, and has room for, its lane takes, and has room for
  pub items_fit : (x : Items) → TakesItems ((view_of_rings ws rs).kind e) x → length (item_signals x) ≤ (view_of_rings ws rs).room e →
      TakesItems (kind_of w) x × (length (item_messages x) ≤ certain_room w)
  items_fit x takes certain = (
    subst (λ of. TakesItems of x) (had_kind ws rs e old w w here is was (same_writer_refl w)) takes,
    omega (arith, certain, length-items x, had_room ws rs e old w w here is was (same_writer_refl w)),
  )

  -- and what its lane puts is put on the edge
  pub items_put : (v : LaneWriter) (x : Items) → PutsAll (item_messages x) w v → PutAll (view_of_rings ws rs) e (item_signals x) (view_of_rings (set ws e (Some v)) rs)
  items_put v x puts =
      subst (λ (l : List Signal). PutAll (view_of_rings ws rs) e l (view_of_rings (set ws e (Some v)) rs)) (signals-items x)
      (writer-put_all ws rs e old w v here is was puts.same (item_messages x) puts.put puts.room)
