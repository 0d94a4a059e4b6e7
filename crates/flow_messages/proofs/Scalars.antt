-- Blocks of scalar messages: what is put and taken.
use Rattle.std.proofs.Common.{◌≡◌, ℕ, zero, suc, ◌+◌, ◌<◌, ◌≤◌, true, false, cond, List, [], ◌∷◌, ◌++◌, length, take, drop, refl, sym, ap, subst, ◌∙◌}
use Rattle.std.proofs.Common.{arith, inl, inr, add-one, get_or, append_assoc, append-nil}
use Rattle.std.proofs.Math.Seq.{drop-append_seam, take-suc}
use Rattle.std.proofs.lemmas.List.{length-map, map-append}
use mathlib.Core.List.{IsPrefix}
use Rattle.flow_messages.specs.declared.message.Msg.{Msg}
use Rattle.flow_messages.specs.declared.flat.Flat.{Flat}
use Rattle.flow_messages.specs.declared.flat.Flat.TheVariants.{Unit as UnitFlat, Bool as BoolFlat, Int as IntFlat, End as EndFlat}
use Rattle.flow_messages.specs.Signals.{Signal, signals, signal_of, ended, orderly}
use Rattle.flow_messages.specs.Flats.{message_of, messages_of, is_scalar, flat_signals, scalar_first}
use Rattle.flow_messages.specs.TableLaws.{signals-length}
use Rattle.flow_messages.proofs.Signals.{signals-snoc}
use Rattle.flow_messages.specs.Ends.{View, LookedForRoom, LookedForMessages, Put, Taken, TakenAll, PutAll}
use Rattle.flow_messages.proofs.Blocks.{same_ends_then, still_open}
use Rattle.std.specs.List.{All}
use Rattle.std.specs.Prelude.{Option, Result, Ok, Err, OnOk, IfErr, IsOk, IsErrAnd, ◌↔◌}
use Rattle.std.proofs.lemmas.Bool.{cases_Bool}
use Rattle.flow_messages.specs.declared.message.Kind.{Kind}
use Rattle.flow_messages.specs.declared.ends.Refused.{Refused}
use Rattle.flow_messages.specs.declared.ends.Why.TheVariants.{Closed}
use Rattle.flow_messages.specs.Kinds.{FitsEdge}

-- in an orderly block no message but the last is an end
pub open_before : (xs : List Flat) (i : ℕ) → i < length xs → orderly (flat_signals xs) ≡ true → ended (flat_signals (take i xs)) ≡ false
unfolding signals ended orderly
open_before [] i low h = absurd (omega (arith, low))
open_before (x ∷ xs) zero low h = refl
open_before (EndFlat ∷ []) (suc i) low h = let no : suc i < 1 = low in absurd (omega arith)
open_before (EndFlat ∷ y ∷ xs) (suc i) low h = cc
open_before (UnitFlat ∷ xs) (suc i) low h = let up : suc i < suc (length xs) = low in open_before xs i (omega arith) h
open_before (BoolFlat b ∷ xs) (suc i) low h = let up : suc i < suc (length xs) = low in open_before xs i (omega arith) h
open_before (IntFlat n ∷ xs) (suc i) low h = let up : suc i < suc (length xs) = low in open_before xs i (omega arith) h

-- the writer looked for room once more
pub looked_then : (a v w : View) (e : ℕ) → LookedForRoom a e v → LookedForRoom v e w → LookedForRoom a e w
looked_then a v w e h g = record {
  ends = same_ends_then a v w h.ends g.ends;
  traffic = record { sent = λ k. g.traffic.sent k ∙ h.traffic.sent k; received = λ k. g.traffic.received k ∙ h.traffic.received k };
  coming = λ k. g.coming k ∙ h.coming k;
  room = λ k ne. g.room k ne ∙ h.room k ne;
  more = omega (arith, h.more, g.more);
}

-- nothing was put, and the writer looked for room
pub looked_put : (a v : View) (e : ℕ) → LookedForRoom a e v → PutAll a e [] v
looked_put a v e h = record {
  ends = h.ends;
  sent = h.traffic.sent e ∙ same_sent (ended (a.sent e)) (a.sent e);
  others = λ k ne. h.traffic.sent k;
  received = λ k. h.traffic.received k;
  coming = λ k ne. h.coming k;
  coming_here = ([], append-nil (a.coming e) ∙ sym (h.coming e));
  room = λ k ne. h.room k ne;
  room_here = omega (arith, h.more);
} where
  same_sent : (b : _) (s : List Signal) → s ≡ cond b s (s ++ [])
  same_sent true s = refl
  same_sent false s = sym (append-nil s)

-- what was put is there, where the edge was open or nothing was put
pub put_is_sent : (a w : View) (e : ℕ) (ms : List Signal) → PutAll a e ms w → (0 < length ms → ended (a.sent e) ≡ false) → w.sent e ≡ a.sent e ++ ms
put_is_sent a w e [] all free = all.sent ∙ either (ended (a.sent e)) (a.sent e) where
  either : (b : _) (s : List Signal) → cond b s (s ++ []) ≡ s ++ []
  either true s = sym (append-nil s)
  either false s = refl
put_is_sent a w e (m ∷ ms) all free = all.sent ∙ ap (λ b. cond b (a.sent e) (a.sent e ++ m ∷ ms)) (free (omega arith))

prefix_under : (c ms v w : List Signal) → IsPrefix c (ms ++ v) → IsPrefix v w → IsPrefix c (ms ++ w)
prefix_under c ms v w (more, is) (rest, all) = (more ++ rest, sym (append_assoc c more rest) ∙ ap (λ l. l ++ rest) is ∙ append_assoc ms v rest ∙ ap (λ l. ms ++ l) all)

-- the reader looked for messages after these were taken
pub taken_looked : (a v w : View) (e : ℕ) (ms : List Signal) → TakenAll a e ms v → LookedForMessages v e w → TakenAll a e ms w
taken_looked a v w e ms all look = record {
  ends = same_ends_then a v w all.ends look.ends;
  received = look.traffic.received e ∙ all.received;
  others = λ k ne. look.traffic.received k ∙ all.others k ne;
  sent = λ k. look.traffic.sent k ∙ all.sent k;
  room = λ k ne. look.room k ∙ all.room k ne;
  room_here = omega (arith, look.room e, all.room_here);
  coming = λ k ne. look.coming k ne ∙ all.coming k ne;
  coming_here = prefix_under (a.coming e) ms (v.coming e) (w.coming e) all.coming_here look.more;
}

-- one message more was taken
pub taken_more : (a v w : View) (e : ℕ) (ms : List Signal) (m : Signal) → TakenAll a e ms v → Taken v e m w → TakenAll a e (ms ++ m ∷ []) w
taken_more a v w e ms m all one =
    let (more, is) = prefix_under (a.coming e) ms (v.coming e) (m ∷ w.coming e) all.coming_here one.coming_here in
    record {
      ends = same_ends_then a v w all.ends one.ends;
      received = one.received ∙ ap (λ l. l ++ m ∷ []) all.received ∙ append_assoc (a.received e) ms (m ∷ []);
      others = λ k ne. one.others k ne ∙ all.others k ne;
      sent = λ k. one.sent k ∙ all.sent k;
      room = λ k ne. one.room k ne ∙ all.room k ne;
      room_here = omega (arith, one.room_here, all.room_here);
      coming = λ k ne. one.coming k ne ∙ all.coming k ne;
      coming_here = (more, is ∙ sym (append_assoc ms (m ∷ []) (w.coming e)));
    }

-- what comes first stays first
pub still_first : (c d : List Signal) → IsPrefix c d → scalar_first c ≡ true → scalar_first d ≡ true
still_first [] d p h = absurd (cc)
still_first (m ∷ c) [] (more, is) h = absurd (cc)
still_first (m ∷ c) (n ∷ d) (more, is) h = cc

-- a scalar that comes first is there
pub first_is_there : (c : List Signal) → scalar_first c ≡ true → 0 < length c
first_is_there [] h = absurd (cc)
first_is_there (m ∷ c) h = omega arith

-- what is taken is what came first
pub first_was_scalar : (c d : List Signal) (m : Signal) → IsPrefix c (m ∷ d) → scalar_first c ≡ true → is_scalar m ≡ true
first_was_scalar [] d m p h = absurd (cc)
first_was_scalar (n ∷ c) d m (more, is) h = cc

-- a block with one message more
pub appended_next : (old now : List Flat) (x : Flat) → now ≡ old ++ drop (length old) now → drop (length old) (now ++ x ∷ []) ≡ drop (length old) now ++ x ∷ []
appended_next old now x is =
    let d = drop (length old) now in
    ap (λ (l : List Flat). drop (length old) (l ++ x ∷ [])) is ∙ ap (drop (length old)) (append_assoc old d (x ∷ [])) ∙ drop-append_seam old (d ++ x ∷ [])

pub said_next : (xs : List Flat) (x : Flat) (m : Msg) → message_of x ≡ m → flat_signals (xs ++ x ∷ []) ≡ flat_signals xs ++ signal_of m ∷ []
said_next xs x m is = ap signals (map-append message_of xs (x ∷ [])) ∙ signals-snoc (messages_of xs) (message_of x) ∙ ap (λ (n : Msg). flat_signals xs ++ signal_of n ∷ []) is

-- what a block says, with one message more
pub said_more : (xs : List Flat) (i : ℕ) (d : Flat) → i < length xs → flat_signals (take (i + 1) xs) ≡ flat_signals (take i xs) ++ signal_of (message_of (get_or xs i d)) ∷ []
said_more xs i d low = ap flat_signals (ap (λ k. take k xs) (add-one i) ∙ take-suc xs i d low) ∙ said_next (take i xs) (get_or xs i d) (message_of (get_or xs i d)) refl

pub said_none : flat_signals [] ≡ []
unfolding signals
said_none = refl

pub said_length : (xs : List Flat) → length (flat_signals xs) ≡ length xs
said_length xs = signals-length (messages_of xs) ∙ length-map xs message_of

pub appended_none : (old : List Flat) → drop (length old) old ≡ []
appended_none [] = refl
appended_none (x ∷ old) = appended_none old

-- with one message more, this was appended
module _ (old now new : List Flat) (x : Flat) (is : now ≡ old ++ drop (length old) now) (more : new ≡ now ++ x ∷ []) where
  pub appended_is : drop (length old) new ≡ drop (length old) now ++ x ∷ []
  appended_is = ap (drop (length old)) more ∙ appended_next old now x is

  pub appended_after : new ≡ old ++ drop (length old) new
  appended_after = more ∙ ap (λ (l : List Flat). l ++ x ∷ []) is ∙ append_assoc old (drop (length old) now) (x ∷ []) ∙ ap (λ (l : List Flat). old ++ l) (sym appended_is)

-- where a scalar was certain to come, none is missing only after some were taken
pub some_were_taken : (a v w : View) (e : ℕ) (xs : List Flat) → TakenAll a e (flat_signals xs) v → LookedForMessages v e w → scalar_first (a.coming e)
    ≡ true → false ≡ scalar_first (w.coming e) → 0 < length xs
unfolding signals
some_were_taken a v w e [] all look first none =
    let was = still_first (a.coming e) (v.coming e) all.coming_here first in
    let is = still_first (v.coming e) (w.coming e) look.more was in
    absurd (cc)
some_were_taken a v w e (x ∷ xs) all look first none = omega arith

-- the message at a place of a block

pub fits_at : (k : Option Kind) (xs ys : List Flat) (i : ℕ) (d : Flat) (m : Msg) → ys ≡ xs → All (λ x. FitsEdge k (signal_of (message_of x))) xs →
    i < length ys → m ≡ message_of (get_or ys i d) → FitsEdge k (signal_of m)
fits_at k xs ys i d m is fit low at = subst (λ (n : Msg). FitsEdge k (signal_of n)) (sym (at ∙ ap (λ l. message_of (get_or l i d)) is)) (fit i d (omega (arith, low, ap length is)))

pub said_at : (xs ys : List Flat) (i : ℕ) (d : Flat) (m : Msg) → ys ≡ xs → i < length ys → m ≡ message_of (get_or ys i d) →
    flat_signals (take (i + 1) xs) ≡ flat_signals (take i xs) ++ signal_of m ∷ []
said_at xs ys i d m is low at = said_more xs i d (omega (arith, low, ap length is)) ∙ ap (λ (n : Msg). flat_signals (take i xs) ++ signal_of n ∷ []) (sym (at ∙ ap (λ l. message_of (get_or l i d)) is))

-- an edge on which these were put was open before, if it is now
pub was_open : (a v : View) (e : ℕ) (ms : List Signal) → PutAll a e ms v → ended (v.sent e) ≡ false → ended (a.sent e) ≡ false
was_open a v e ms all now = elim (cases_Bool (ended (a.sent e))) [
  | inl shut ↦ absurd (let same = ap ended (all.sent ∙ ap (λ b. cond b (a.sent e) (a.sent e ++ ms)) shut) ∙ shut in cc)
  | inr free ↦ free
]

-- the answer of a put where room was certain
module _ (a v w : View) (e : ℕ) (ms : List Signal) (message : Msg) (all : PutAll a e ms v) (no_end : ended ms ≡ false) (some : 0 < v.room e) where
  pub open_after : (r : Result (Unit {0}) Refused) → IsOk r → IsErrAnd r (λ x. x.why ≡ Closed) ↔ (ended (v.sent e) ≡ true) → ended (a.sent e) ≡ false
  open_after (Err x) ok closed = absurd (cc)
  open_after (Ok x) ok closed = elim (cases_Bool (ended (v.sent e))) [
    | inl shut ↦ absurd (closed.1 shut)
    | inr free ↦ was_open a v e ms all free
  ]

  pub room_after : (r : Result (Unit {0}) Refused) → IsOk r → OnOk r (Put v e (signal_of message) w) → v.room e ≤ w.room e + 1
  room_after (Err x) ok put = absurd (cc)
  room_after (Ok x) ok put = put.room_here

  pub not_refused : (r : Result (Unit {0}) Refused) → (IsOk r → ⊥) → (ended (v.sent e) ≡ false → 0 < v.room e → IsOk r) → ended (a.sent e) ≡ false → ⊥
  not_refused r bad succeeds free = bad (succeeds (still_open a v w e ms (signal_of message) message r all no_end free) some)

  pub refused_first : (r : Result (Unit {0}) Refused) (i : ℕ) → (IsOk r → ⊥) → IfErr r (λ x. (x.message ≡ message) × LookedForRoom v e w) →
      (ended (v.sent e) ≡ false → 0 < v.room e → IsOk r) → (i ≡ 0 → LookedForRoom a e v) → (0 < i → ended (a.sent e) ≡ false) → LookedForRoom a e w
  refused_first (Ok x) i bad refused succeeds looked free = absurd (bad refl)
  refused_first (Err x) zero bad refused succeeds looked free = looked_then a v w e (looked refl) refused.1
  refused_first (Err x) (suc i) bad refused succeeds looked free = absurd (not_refused (Err x) bad succeeds (free (omega arith)))
