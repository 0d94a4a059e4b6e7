-- Many messages of one edge, one after another.
use Rattle.std.proofs.Common.{◌≡◌, ℕ, zero, suc, ◌+◌, ◌<◌, ◌↔◌, true, false, cond, ◌||◌, List, [], ◌∷◌, ◌++◌, length, map, take, refl, ap, sym, ◌∙◌}
use Rattle.std.proofs.Common.{arith, add-one, append_assoc, append-nil, length-append, get_or, inl, inr}
use Rattle.std.proofs.Math.Seq.{take-suc}
use Rattle.std.proofs.lemmas.List.{map-append, length-take-le}
use Rattle.std.proofs.lemmas.Bool.{cases_Bool}
use Rattle.std.specs.Prelude.{Option, Some, None, Result, Ok, Err, OnOk, IfErr, IfSome, IsSome, IsOk, IsErrAnd}
use mathlib.Core.List.{IsPrefix}
use Rattle.flow_messages.specs.declared.message.Msg.{Msg}
use Rattle.flow_messages.specs.declared.ends.Refused.{Refused}
use Rattle.flow_messages.specs.declared.ends.Why.TheVariants.{Closed}
use Rattle.flow_messages.specs.Signals.{Signal, signal_of, carry, stop, is_stop, ended}
use Rattle.flow_messages.specs.Blocks.{unit_signals}
use Rattle.flow_messages.specs.Ends.{View, held, SameEnds, LookedForRoom, Put, Taken, TakenAll, PutAll}

pub prefix_then : {X : Type 0} (xs ys zs : List X) → IsPrefix xs ys → IsPrefix ys zs → IsPrefix xs zs
prefix_then xs ys zs (more, is) (rest, all) = (more ++ rest, sym (append_assoc xs more rest) ∙ ap (λ l. l ++ rest) is ∙ all)

pub same_ends_then : (a b c : View) → SameEnds a b → SameEnds b c → SameEnds a c
same_ends_then a b c h g = record { kinds = λ k. g.kinds k ∙ h.kinds k; writes = λ k. g.writes k ∙ h.writes k; reads = λ k. g.reads k ∙ h.reads k }

-- one more of what was certain: it is the next, and the rest still comes
next_is : (c v w : List Signal) (i : ℕ) (m : Signal) → i < length c → IsPrefix c (take i c ++ v) → IsPrefix v (m ∷ w) → take (suc i) c ≡ take i c ++ m ∷ []
next_is [] v w i m low all first = absurd (omega arith)
next_is (x ∷ c) v w zero m low all first = let (more, is) = prefix_then (x ∷ c) v (m ∷ w) all first in cc
next_is (x ∷ c) v w (suc i) m low (more, is) first = ap (λ l. x ∷ l) (next_is c v w i m (omega arith) (more, cc) first)

rest_comes : (c v w : List Signal) (i : ℕ) (m : Signal) → take (suc i) c ≡ take i c ++ m ∷ [] → IsPrefix c (take i c ++ v) → IsPrefix v (m ∷ w) → IsPrefix c (take (suc i) c ++ w)
rest_comes c v w i m one (more, is) (rest, all) = (
  more ++ rest,
  sym (append_assoc c more rest) ∙ ap (λ l. l ++ rest) is ∙ append_assoc (take i c) v rest ∙ ap (λ l. take i c ++ l) all
      ∙ sym (append_assoc (take i c) (m ∷ []) w) ∙ ap (λ l. l ++ w) (sym one),
)

more_waits : (c v : List Signal) (i : ℕ) → i < length c → IsPrefix c (take i c ++ v) → 0 < length v
more_waits c v i low (more, is) = omega (arith, ap length is, length-append c more, length-append (take i c) v, length-take-le i c)

-- nothing was taken yet
pub taken_none : (a : View) (e : ℕ) → TakenAll a e [] a
taken_none a e = record {
  ends = record { kinds = λ k. refl; writes = λ k. refl; reads = λ k. refl };
  received = sym (append-nil (a.received e));
  others = λ k ne. refl;
  sent = λ k. refl;
  room = λ k ne. refl;
  room_here = omega arith;
  coming = λ k ne. refl;
  coming_here = ([], append-nil (a.coming e));
}

-- one message more was taken, of those that were certain
pub taken_next : (a v w : View) (e i : ℕ) (r : Option Msg) → i < length (a.coming e) → TakenAll a e (take i (a.coming e)) v →
    IfSome r (λ m. Taken v e (signal_of m) w) → (0 < held v e → IsSome r) → TakenAll a e (take (suc i) (a.coming e)) w
taken_next a v w e i None low all some succeeds = absurd (let no = succeeds (more_waits (a.coming e) (v.coming e) i low all.coming_here) in cc)
taken_next a v w e i (Some x) low all some succeeds =
    let m = signal_of x in
    let one = next_is (a.coming e) (v.coming e) (w.coming e) i m low all.coming_here some.coming_here in
    record {
      ends = same_ends_then a v w all.ends some.ends;
      received = some.received ∙ ap (λ l. l ++ m ∷ []) all.received ∙ append_assoc (a.received e) (take i (a.coming e)) (m ∷ []) ∙ ap (λ l. a.received e ++ l) (sym one);
      others = λ k ne. some.others k ne ∙ all.others k ne;
      sent = λ k. some.sent k ∙ all.sent k;
      room = λ k ne. some.room k ne ∙ all.room k ne;
      room_here = omega (arith, some.room_here, all.room_here);
      coming = λ k ne. some.coming k ne ∙ all.coming k ne;
      coming_here = rest_comes (a.coming e) (v.coming e) (w.coming e) i m one all.coming_here some.coming_here;
    }

-- nothing was put yet
pub put_none : (a : View) (e : ℕ) → PutAll a e [] a
put_none a e = record {
  ends = record { kinds = λ k. refl; writes = λ k. refl; reads = λ k. refl };
  sent = elim (cases_Bool (ended (a.sent e))) [
    | inl shut ↦ rw shut refl
    | inr free ↦ rw free (sym (append-nil (a.sent e)))
  ];
  others = λ k ne. refl;
  received = λ k. refl;
  coming = λ k ne. refl;
  coming_here = ([], append-nil (a.coming e));
  room = λ k ne. refl;
  room_here = omega arith;
}

ended_append : (xs ys : List Signal) → ended xs ≡ false → ended (xs ++ ys) ≡ ended ys
unfolding ended
ended_append [] ys h = refl
ended_append (carry x ∷ xs) ys h = ended_append xs ys h
ended_append (stop ∷ xs) ys h = absurd (cc)

-- one message more was put, where room was certain
module _ (a v w : View) (e : ℕ) (ms : List Signal) (m : Signal) (message : Msg) (r : Result (Unit {0}) Refused) (all : PutAll a e ms v) (no_end : ended ms ≡ false) where
  pub still_open : ended (a.sent e) ≡ false → ended (v.sent e) ≡ false
  still_open free = ap ended (all.sent ∙ ap (λ b. cond b (a.sent e) (a.sent e ++ ms)) free) ∙ ended_append (a.sent e) ms free ∙ no_end

  pub still_shut : ended (a.sent e) ≡ true → v.sent e ≡ a.sent e
  still_shut shut = all.sent ∙ ap (λ b. cond b (a.sent e) (a.sent e ++ ms)) shut

  shut_sent : (now : List Signal) → ended (a.sent e) ≡ true → now ≡ a.sent e → now ≡ cond (ended (a.sent e)) (a.sent e) (a.sent e ++ (ms ++ m ∷ []))
  shut_sent now shut is = is ∙ ap (λ b. cond b (a.sent e) (a.sent e ++ (ms ++ m ∷ []))) (sym shut)

  open_sent : (now : List Signal) → ended (a.sent e) ≡ false → now ≡ v.sent e ++ m ∷ [] → now ≡ cond (ended (a.sent e)) (a.sent e) (a.sent e ++ (ms ++ m ∷ []))
  open_sent now free is = is ∙ ap (λ l. l ++ m ∷ []) (all.sent ∙ ap (λ b. cond b (a.sent e) (a.sent e ++ ms)) free)
      ∙ append_assoc (a.sent e) ms (m ∷ []) ∙ ap (λ b. cond b (a.sent e) (a.sent e ++ (ms ++ m ∷ []))) (sym free)

  pub put_more : 0 < v.room e → OnOk r (Put v e m w) → IfErr r (λ x. (x.message ≡ message) × LookedForRoom v e w) →
      IsErrAnd r (λ x. x.why ≡ Closed) ↔ (ended (v.sent e) ≡ true) → (ended (v.sent e) ≡ false → 0 < v.room e → IsOk r) → PutAll a e (ms ++ m ∷ []) w
  put_more some ok refused closed succeeds = by_answer r ok refused closed succeeds where
    by_answer : (r : Result (Unit {0}) Refused) → OnOk r (Put v e m w) → IfErr r (λ x. (x.message ≡ message) × LookedForRoom v e w) →
        IsErrAnd r (λ x. x.why ≡ Closed) ↔ (ended (v.sent e) ≡ true) → (ended (v.sent e) ≡ false → 0 < v.room e → IsOk r) → PutAll a e (ms ++ m ∷ []) w
    by_answer (Ok x) ok refused closed succeeds = record {
      ends = same_ends_then a v w all.ends ok.ends;
      sent = elim (cases_Bool (ended (a.sent e))) [
        | inl shut ↦ absurd (closed.1 (ap ended (still_shut shut) ∙ shut))
        | inr free ↦ open_sent (w.sent e) free ok.sent
      ];
      others = λ k ne. ok.others k ne ∙ all.others k ne;
      received = λ k. ok.received k ∙ all.received k;
      coming = λ k ne. ok.coming k ne ∙ all.coming k ne;
      coming_here = prefix_then (a.coming e) (v.coming e) (w.coming e) all.coming_here ok.coming_here;
      room = λ k ne. ok.room k ne ∙ all.room k ne;
      room_here = omega (arith, all.room_here, ok.room_here, length-append ms (m ∷ []));
    }
    by_answer (Err x) ok refused closed succeeds = record {
      ends = same_ends_then a v w all.ends refused.1.ends;
      sent = elim (cases_Bool (ended (a.sent e))) [
        | inl shut ↦ shut_sent (w.sent e) shut (refused.1.traffic.sent e ∙ still_shut shut)
        | inr free ↦ absurd (let no = succeeds (still_open free) some in cc)
      ];
      others = λ k ne. refused.1.traffic.sent k ∙ all.others k ne;
      received = λ k. refused.1.traffic.received k ∙ all.received k;
      coming = λ k ne. refused.1.coming k ∙ all.coming k ne;
      coming_here = prefix_then (a.coming e) (v.coming e) (w.coming e) all.coming_here ([], append-nil (v.coming e) ∙ sym (refused.1.coming e));
      room = λ k ne. refused.1.room k ne ∙ all.room k ne;
      room_here = omega (arith, all.room_here, refused.1.more, length-append ms (m ∷ []));
    }

  pub put_next : length ms < a.room e → OnOk r (Put v e m w) → IfErr r (λ x. (x.message ≡ message) × LookedForRoom v e w) →
      IsErrAnd r (λ x. x.why ≡ Closed) ↔ (ended (v.sent e) ≡ true) → (ended (v.sent e) ≡ false → 0 < v.room e → IsOk r) → PutAll a e (ms ++ m ∷ []) w
  put_next room ok refused closed succeeds = put_more (omega (arith, room, all.room_here)) ok refused closed succeeds

-- what a block says, with one item more
pub block_next : {X : Type 0} (f : X → Signal) (xs : List X) (i : ℕ) (d : X) → i < length xs → map f (take (i + 1) xs) ≡ map f (take i xs) ++ f (get_or xs i d) ∷ []
block_next f xs i d low = ap (λ k. map f (take k xs)) (add-one i) ∙ ap (map f) (take-suc xs i d low) ∙ map-append f (take i xs) (get_or xs i d ∷ [])

-- items say no end
pub items_go_on : {X : Type 0} (f : X → Signal) → ((x : X) → is_stop (f x) ≡ false) → (xs : List X) → ended (map f xs) ≡ false
unfolding ended
items_go_on f item [] = refl
items_go_on f item (x ∷ xs) = ap (λ b. b || ended (map f xs)) (item x) ∙ items_go_on f item xs

pub units_go_on : (n : ℕ) → ended (unit_signals n) ≡ false
unfolding ended
units_go_on zero = refl
units_go_on (suc n) = units_go_on n
