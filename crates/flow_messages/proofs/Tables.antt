-- One line of a table, and the others.
use Rattle.std.proofs.Common.{◌≡◌, ◌≢◌, ℕ, zero, suc, ◌+◌, ◌-◌, ◌<◌, ◌≤◌, true, false, cond, List, [], ◌∷◌, ◌++◌, length, map, refl, ap, subst, sym}
use Rattle.std.proofs.Common.{◌∙◌, get_or, set, arith, length-set, length-append, append-nil, ◌⊎◌, inl, inr}
use Rattle.std.proofs.lemmas.List.{get_or-map, map-set, get_or-set_same, get_or-set_other, length-map}
use Rattle.std.proofs.lemmas.List.Elements.{All-append}
use Rattle.std.proofs.lemmas.Bool.{cases_eq, cases_Bool}
use mathlib.Core.List.{IsPrefix}
use Rattle.std.specs.List.{All}
use Rattle.std.specs.Prelude.{Option, Some, None, Result, Ok, Err, OnOk, OnErr, IfErr, IfSome, IfNone, IsSome, slice_get, ◌↔◌}
use Rattle.flow_messages.specs.declared.message.Kind.{Kind}
use Rattle.flow_messages.specs.declared.message.Msg.{Msg}
use Rattle.flow_messages.specs.declared.line.Line.{Line}
use Rattle.flow_messages.specs.Signals.{Signal, signals, signal_of, ended}
use Rattle.flow_messages.specs.Ends.{View, held, SameEnds, SameTraffic, LookedForRoom, LookedForMessages, Put, Taken, TakenAll, PutAll}
use Rattle.flow_messages.specs.Tables.{at_line, view_of_lines}
use Rattle.flow_messages.specs.Stores.{content_of}
use Rattle.flow_messages.specs.Lines.{gone}
use Rattle.flow_messages.specs.TableLaws.{signals-append, signals-length}
use Rattle.flow_messages.proofs.Signals.{signals-nil, signals-cons}
use Rattle.flow_messages.proofs.Lines.{gone_put, gone_rest}

module _ {L X : Type 0} (f : L → X) (ls : List L) (e : ℕ) (d : X) where
  pub at_line-here : (old : L) → e < length ls → old ≡ get_or ls e old → at_line f ls e d ≡ f old
  at_line-here old h is = get_or-map f ls e old d h ∙ ap f (sym is)

  pub at_line-same : (new : L) → e < length ls → at_line f (set ls e new) e d ≡ f new
  at_line-same new h =
      let h' : e < length (map f ls) = omega (arith, length-map ls f) in
      ap (λ xs. get_or xs e d) (map-set f ls e new) ∙ get_or-set_same (map f ls) e (f new) d h'

  pub at_line-other : (new : L) (k : ℕ) → k ≢ e → at_line f (set ls e new) k d ≡ at_line f ls k d
  at_line-other new k ne = ap (λ xs. get_or xs k d) (map-set f ls e new) ∙ get_or-set_other (map f ls) e k (f new) d ne

-- what f does not tell apart stays, at every edge
module _ {L X : Type 0} (f : L → X) (ls : List L) (e : ℕ) (d : X) (old new : L) (h : e < length ls) (is : old ≡ get_or ls e old) where
  pub at_line-kept : f new ≡ f old → (k : ℕ) → at_line f (set ls e new) k d ≡ at_line f ls k d
  at_line-kept same k = by_cases (cases_eq k e) where
    by_cases : (k ≡ e) ⊎ (k ≡ e → ⊥) → at_line f (set ls e new) k d ≡ at_line f ls k d
    by_cases (inl here) = rw here (at_line-same f ls e d new h ∙ same ∙ sym (at_line-here f ls e d old h is))
    by_cases (inr ne) = at_line-other f ls e d new k ne

-- what a view reads off a line
abbrev pub sent_on : Line → List Signal
sent_on l = signals l.sent.items

abbrev pub gone_from : Line → List Msg
gone_from l = gone l.sent.items (content_of l.store)

abbrev pub received_on : Line → List Signal
received_on l = signals (gone_from l)

abbrev coming_on : Line → List Signal
coming_on l = signals (content_of l.store)

abbrev kind_on : Line → Option Kind
kind_on l = Some l.store.kind

abbrev room_on : Line → ℕ
room_on l = l.store.capacity - length (content_of l.store)

-- a block of one message
pub taken_one : (a b : View) (e : ℕ) (m : Signal) → TakenAll a e (m ∷ []) b → Taken a e m b
taken_one a b e m all =
    record {
      ends = all.ends;
      received = all.received;
      others = all.others;
      sent = all.sent;
      room = all.room;
      room_here = all.room_here;
      coming =
          all.coming;
      coming_here = all.coming_here;
    }

-- the ends of a table, with one line changed
module _ (ls : List Line) (e : ℕ) (old new : Line) (h : e < length ls) (is : old ≡ get_or ls e old) (of_kind : new.store.kind ≡ old.store.kind) where
  abbrev before : View
  before = view_of_lines ls

  abbrev after : View
  after = view_of_lines (set ls e new)

  pub same_ends : SameEnds before after
  same_ends = record { kinds = at_line-kept kind_on ls e None old new h is (ap (λ k. Some k) of_kind); writes = λ k. rw (length-set ls e new); reads = λ k. rw (length-set ls e new) }

  -- these messages were put on it
  module _ (ms : List Msg) (sent : new.sent.items ≡ old.sent.items ++ ms) (held : content_of new.store ≡ content_of old.store ++ ms) (capacity : new.store.capacity ≡ old.store.capacity) where
    put_gone : gone_from new ≡ gone_from old
    put_gone = ap (λ s. gone s (content_of new.store)) sent ∙ ap (gone (old.sent.items ++ ms)) held ∙ gone_put old.sent.items (content_of old.store) old.fifo ms

    put_sent : after.sent e ≡ before.sent e ++ signals ms
    put_sent = at_line-same sent_on ls e [] new h ∙ ap signals sent ∙ signals-append old.sent.items ms ∙ ap (λ xs. xs ++ signals ms) (sym (at_line-here sent_on ls e [] old h is))

    put_received : (k : ℕ) → after.received k ≡ before.received k
    put_received = at_line-kept received_on ls e [] old new h is (ap signals put_gone)

    put_coming : IsPrefix (before.coming e) (after.coming e)
    put_coming = (
      signals ms,
      ap (λ xs. xs ++ signals ms) (at_line-here coming_on ls e [] old h is) ∙ sym (signals-append (content_of old.store) ms) ∙ sym (ap signals held) ∙ sym (at_line-same coming_on ls e [] new h),
    )

    put_room : before.room e ≤ after.room e + length ms
    put_room = let longer : length (content_of new.store) ≡ length (content_of old.store) + length ms = ap length held
        ∙ length-append (content_of old.store) ms in omega (arith, at_line-same room_on ls e 0 new h, at_line-here room_on ls e 0 old h is)

  pub line-put : (m : Msg) → new.sent.items ≡ old.sent.items ++ m ∷ [] → content_of new.store ≡ content_of old.store ++ m ∷ [] → new.store.capacity
      ≡ old.store.capacity → Put before e (signal_of m) after
  line-put m sent held capacity = record {
    ends = same_ends;
    sent = put_sent (m ∷ []) sent held capacity ∙ ap (λ l. before.sent e ++ l) (signals-cons m [] ∙ ap (λ l. signal_of m ∷ l) signals-nil);
    others = at_line-other sent_on ls e [] new;
    received = put_received (m ∷ []) sent held capacity;
    coming = at_line-other coming_on ls e [] new;
    coming_here = put_coming (m ∷ []) sent held capacity;
    room = at_line-other room_on ls e 0 new;
    room_here = put_room (m ∷ []) sent held capacity;
  }

  -- these messages were taken from it
  pub line-taken_all : (ms : List Msg) → new.sent.items ≡ old.sent.items → content_of old.store ≡ ms ++ content_of new.store → new.store.capacity
      ≡ old.store.capacity → TakenAll before e (signals ms) after
  line-taken_all ms sent held capacity =
      let more = ap (λ s. gone s (content_of new.store)) sent ∙ gone_rest old.sent.items (content_of old.store) old.fifo ms (content_of new.store) held in
      let shorter : length (content_of old.store) ≡ length ms + length (content_of new.store) = ap length held ∙ length-append ms (content_of new.store) in
      record {
        ends = same_ends;
        received = at_line-same received_on ls e [] new h ∙ ap signals more ∙ signals-append (gone_from old) ms ∙ ap (λ xs. xs ++ signals ms) (sym (at_line-here received_on ls e [] old h is));
        others = at_line-other received_on ls e [] new;
        sent = at_line-kept sent_on ls e [] old new h is (ap signals sent);
        coming = at_line-other coming_on ls e [] new;
        coming_here = (
          [],
          append-nil (before.coming e) ∙ at_line-here coming_on ls e [] old h is ∙ ap signals held ∙ signals-append ms (content_of new.store)
              ∙ ap (λ xs. signals ms ++ xs) (sym (at_line-same coming_on ls e [] new h)),
        );
        room = at_line-other room_on ls e 0 new;
        room_here = omega (arith, at_line-same room_on ls e 0 new h, at_line-here room_on ls e 0 old h is);
      }

  pub line-taken : (m : Msg) → new.sent.items ≡ old.sent.items → content_of old.store ≡ m ∷ content_of new.store → new.store.capacity ≡ old.store.capacity → Taken before e (signal_of m) after
  line-taken m sent held capacity =
      taken_one before after e (signal_of m)
      (subst (λ l. TakenAll before e l after) (signals-cons m [] ∙ ap (λ l. signal_of m ∷ l) signals-nil) (line-taken_all (m ∷ []) sent held capacity))

  -- a line that says the same as before
  pub line-kept : new.sent.items ≡ old.sent.items → content_of new.store ≡ content_of old.store → new.store.capacity ≡ old.store.capacity →
      LookedForRoom before e after × LookedForMessages before e after
  line-kept sent held capacity =
      let traffic : SameTraffic before after = record {
        sent = at_line-kept sent_on ls e [] old new h is (ap signals sent);
        received = at_line-kept received_on ls e [] old new h is (ap signals (ap (λ s. gone s (content_of new.store)) sent ∙ ap (gone old.sent.items) held));
      } in
      let coming = at_line-kept coming_on ls e [] old new h is (ap signals held) in
      let room = at_line-kept room_on ls e 0 old new h is (cc (ap length held)) in (
        record { ends = same_ends; traffic = traffic; coming = coming; room = λ k _. room k; more = omega (arith, room e) },
        record { ends = same_ends; traffic = traffic; room = room; coming = λ k _. coming k; more = ([], append-nil (before.coming e) ∙ sym (coming e)) },
      )

  -- a block was put on it, unless it had ended
  pub line-put_block : (ms : List Msg) → new.sent.items ≡ cond (ended (signals old.sent.items)) old.sent.items (old.sent.items ++ ms) →
      content_of new.store ≡ cond (ended (signals old.sent.items)) (content_of old.store) (content_of old.store ++ ms) → new.store.capacity
      ≡ old.store.capacity → PutAll before e (signals ms) after
  line-put_block ms sent held capacity = by_end (cases_Bool (ended (signals old.sent.items))) where
    here : ended (before.sent e) ≡ ended (signals old.sent.items)
    here = ap ended (at_line-here sent_on ls e [] old h is)

    by_end : (ended (signals old.sent.items) ≡ true) ⊎ (ended (signals old.sent.items) ≡ false) → PutAll before e (signals ms) after
    by_end (inl shut) =
        let kept = line-kept (sent ∙ ap (λ b. cond b old.sent.items (old.sent.items ++ ms)) shut) (held ∙ ap (λ b. cond b (content_of old.store) (content_of old.store ++ ms)) shut) capacity in
        let looked = kept.0 in
        record {
          ends = looked.ends;
          sent = looked.traffic.sent e ∙ ap (λ b. cond b (before.sent e) (before.sent e ++ signals ms)) (sym (here ∙ shut));
          others = λ k ne. looked.traffic.sent k;
          received = looked.traffic.received;
          coming = λ k ne. looked.coming k;
          coming_here = ([], append-nil (before.coming e) ∙ sym (looked.coming e));
          room = looked.room;
          room_here = omega (arith, looked.more);
        }
    by_end (inr free) =
        let now = sent ∙ ap (λ b. cond b old.sent.items (old.sent.items ++ ms)) free in
        let holds = held ∙ ap (λ b. cond b (content_of old.store) (content_of old.store ++ ms)) free in
        record {
          ends = same_ends;
          sent = put_sent ms now holds capacity ∙ ap (λ b. cond b (before.sent e) (before.sent e ++ signals ms)) (sym (here ∙ free));
          others = at_line-other sent_on ls e [] new;
          received = put_received ms now holds capacity;
          coming = at_line-other coming_on ls e [] new;
          coming_here = put_coming ms now holds capacity;
          room = at_line-other room_on ls e 0 new;
          room_here = omega (arith, put_room ms now holds capacity, signals-length ms);
        }

  -- a full line has no room, and an empty one holds nothing
  pub line-full : new.store.capacity ≤ length (content_of new.store) → after.room e ≡ 0
  line-full full = omega (arith, at_line-same room_on ls e 0 new h)

  pub line-empty : content_of new.store ≡ [] → held after e ≡ 0
  line-empty empty = ap length (at_line-same coming_on ls e [] new h ∙ ap signals empty ∙ signals-nil)

module _ (ls : List Line) (e : ℕ) (l : Line) (h : e < length ls) (is : l ≡ get_or ls e l) where
  -- as many messages are certain to come as the line holds
  pub line-held : held (view_of_lines ls) e ≡ length (content_of l.store)
  line-held = ap length (at_line-here coming_on ls e [] l h is) ∙ signals-length (content_of l.store)

  pub line-coming : (view_of_lines ls).coming e ≡ signals (content_of l.store)
  line-coming = at_line-here coming_on ls e [] l h is

  -- the line's first messages are the first that are certain to come
  pub line-begins : (ms : List Msg) → IsPrefix ms (content_of l.store) → IsPrefix (signals ms) ((view_of_lines ls).coming e)
  line-begins ms (more, all) = (signals more, sym (signals-append ms more) ∙ ap signals all ∙ sym line-coming)

  -- it takes items of the line's kind
  pub line-kind : (view_of_lines ls).kind e ≡ Some l.store.kind
  line-kind = at_line-here kind_on ls e None l h is

  -- there is room for as many messages as the line may hold besides
  pub line-space : (view_of_lines ls).room e ≡ l.store.capacity - length (content_of l.store)
  line-space = at_line-here room_on ls e 0 l h is

-- what is shown where there are some
pub seen : {X : Type 0} (P Q : X → Type 0) (r : Option X) (n : ℕ) → IsSome r ↔ (0 < n) → ((x : X) → 0 < n → P x → Q x) → IfSome r P → IfSome r Q
seen P Q (Some x) n iff f p = f x (iff.0 refl) p
seen P Q None n iff f p = tt

-- the oldest message of a queue is the first that is certain to come
pub first_queued : (ms : List Msg) (m : Msg) → 0 < length ms → m ≡ get_or ms 0 m → IsPrefix (signal_of m ∷ []) (signals ms)
first_queued [] m some is = absurd (omega arith)
first_queued (n ∷ ms) m some is = (signals ms, ap (λ x. signal_of x ∷ signals ms) is ∙ sym (signals-cons n ms))

-- a look that finds no more
pub looked-same : (v : View) (e : ℕ) → LookedForMessages v e v
looked-same v e = record {
  ends = record { kinds = λ k. refl; writes = λ k. refl; reads = λ k. refl };
  traffic = record { sent = λ k. refl; received = λ k. refl };
  room = λ k. refl;
  coming = λ k _. refl;
  more = ([], append-nil (v.coming e));
}

-- one line more, of which f says what it says where there is none
pub at_line-snoc : {X : Type 0} (f : Line → X) (ls : List Line) (l : Line) (d : X) → ((k : ℕ) → at_line f ls k d ≡ d) → f l ≡ d → (k : ℕ) → at_line f (ls ++ l ∷ []) k d ≡ d
at_line-snoc f [] l d all here zero = here
at_line-snoc f [] l d all here (suc k) = refl
at_line-snoc f (x ∷ xs) l d all here zero = all 0
at_line-snoc f (x ∷ xs) l d all here (suc k) = at_line-snoc f xs l d (λ j. all (suc j)) here k

-- P holds of one element more
pub all-snoc : {X : Type 0} (P : X → Type 0) (xs : List X) (x : X) → All P xs → P x → All P (xs ++ x ∷ [])
all-snoc P xs x all here = All-append P xs (x ∷ []) all one where
  one : All P (x ∷ [])
  one zero d low = here
  one (suc k) d low = absurd (omega arith)

-- what follows in one case of an answer
pub on_ok : {X E : Type 0} {P Q : Type 0} (r : Result X E) → (P → Q) → OnOk r P → OnOk r Q
on_ok (Ok x) f p = f p
on_ok (Err e) f p = tt

-- two facts of one answer, together
pub on_both : {X E : Type 0} (P Q : Type 0) (r : Result X E) → OnOk r P → OnOk r Q → OnOk r (P × Q)
on_both P Q (Ok x) p q = (p, q)
on_both P Q (Err e) p q = tt

pub err_both : {X E : Type 0} (P Q : Type 0) (r : Result X E) → OnErr r P → OnErr r Q → OnErr r (P × Q)
err_both P Q (Ok x) p q = tt
err_both P Q (Err e) p q = (p, q)

pub err_with : {X E : Type 0} (P : E → Type 0) (Q : Type 0) (r : Result X E) → IfErr r P → OnErr r Q → IfErr r (λ e. P e × Q)
err_with P Q (Ok x) p q = tt
err_with P Q (Err e) p q = (p, q)

pub if_err : {X E : Type 0} (P Q : E → Type 0) (r : Result X E) → ((e : E) → P e → Q e) → IfErr r P → IfErr r Q
if_err P Q (Ok x) f p = tt
if_err P Q (Err e) f p = f e p

pub if_some : {X : Type 0} (P Q : X → Type 0) (r : Option X) → ((x : X) → P x → Q x) → IfSome r P → IfSome r Q
if_some P Q (Some x) f p = f x p
if_some P Q None f p = tt

pub if_none : {X : Type 0} {P Q : Type 0} (r : Option X) → (P → Q) → IfNone r P → IfNone r Q
if_none (Some x) f p = tt
if_none None f p = f p

-- an answer that is none only where the list was empty is there where it was not
pub some_unless_empty : {X Y : Type 0} (r : Option X) (q : List Y) → 0 < length q → IfNone r (q ≡ []) → IsSome r
some_unless_empty (Some x) q some none = refl
some_unless_empty None q some none = absurd (omega (arith, some, ap length none))

-- the kinds of lines, by their numbers
pub kinds_at : (ls : List Line) (e : ℕ) → (view_of_lines ls).kind e ≡ slice_get (map (λ l. l.store.kind) ls) e
kinds_at [] e = cc
kinds_at (l ∷ ls) zero = cc
kinds_at (l ∷ ls) (suc e) = kinds_at ls e

-- what an answer gives that is not none
pub given : {X : Type 0} {P : X → Type 0} {Q : Type 0} (r : Option X) → IfSome r P → IfNone r Q → (Q → ⊥) → (x : X) × P x
given (Some x) some none never = (x, some)
given None some none never = absurd (never none)

-- so what follows from none follows
pub never_none : {X : Type 0} {Q : Type 0} (R : Type 0) (r : Option X) → IfNone r Q → (Q → ⊥) → IfNone r R
never_none R (Some x) none never = tt
never_none R None none never = absurd (never none)
