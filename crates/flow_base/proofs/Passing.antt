-- What a node passes on, item by item, and its end.
use Rattle.std.proofs.Common.{◌≡◌, ℕ, zero, suc, ◌+◌, ◌*◌, ◌<◌, ◌≤◌, Bool, true, false, cond, nat_lt, Option, Some, None, Result, Ok, Err, List, []}
use Rattle.std.proofs.Common.{◌∷◌, ◌++◌, ◌&&◌, length, get_or, take, refl, sym, ◌∙◌, ap, subst, arith, add-one, length-append, inl, inr}
use Rattle.std.proofs.Math.Nat.{mul-add}
use Rattle.std.proofs.lemmas.Bool.{and_parts}
use Rattle.std.proofs.lemmas.Bool.Decides.{nat_tests}
use Rattle.snesl_data.specs.declared.fault.FaultKind.{FaultKind}
use Rattle.kahn.specs.declared.want.Want.TheVariants.{Read, Write, Ended}
use Rattle.kahn.specs.Processes.{Event, Reads, Writes, Does, reads, writes}
use Rattle.kahn.proofs.History.{does_then, reads_append, writes_append}
use Rattle.kahn.proofs.Prefix.{reads_later, writes_first, writes_later}
use Rattle.flow_messages.specs.Signals.{Signal, carry, stop, signal_of, is_stop, orderly, signals}
use Rattle.flow_messages.specs.Flats.{message_of, flat_signals}
use Rattle.flow_messages.specs.declared.flat.Flat.{Flat}
use Rattle.flow_messages.specs.declared.flat.Flat.TheVariants.{Unit as UnitFlat, Bool as BoolFlat, Int as IntFlat, End as EndFlat}
use Rattle.flow_messages.specs.declared.message.Kind.{Kind}
use Rattle.flow_messages.specs.Kinds.{fits}
use Rattle.flow_messages.proofs.Scalars.{said_length, said_more}
use Rattle.flow_base.specs.Ports.{ports}
use Rattle.flow_base.specs.Transducers.{Behaviour, IsWrite}
use Rattle.flow_base.specs.Machines.{Machine, MachineLaws, Move, begins, takes, gives, ask_of, state_after_read, state_after_write, written_cell, OnNext, SoundAt}
use Rattle.flow_base.specs.declared.node.Phase.{Phase}
use Rattle.flow_base.specs.declared.node.Phase.TheVariants.{Working, Closing, Ending, Faulted}
use Rattle.flow_base.specs.Nodes.{NodeState, node_state, behaviour_of, want_for, at_end, went_on, closing}
use Rattle.flow_base.specs.Passing.{MayCome, PassedOn}
use Rattle.flow_base.specs.Following.{Fans, Follows, signals_of, is_begin, is_working, node_passes}
use Rattle.flow_base.specs.Following.{Writes as WritesAll}

-- the same message to so many ports, from this one on
fan : Signal → ℕ → ℕ → List (Event Signal)
fan y q zero = []
fan y q (suc left) = Writes q y ∷ fan y (suc q) left

fan_reads : (p : ℕ) (y : Signal) (q left : ℕ) → reads p (fan y q left) ≡ []
unfolding fan
fan_reads p y q zero = refl
fan_reads p y q (suc left) = fan_reads p y (suc q) left

fan_length : (y : Signal) (q left : ℕ) → length (fan y q left) ≡ left
unfolding fan
fan_length y q zero = refl
fan_length y q (suc left) = ap suc (fan_length y (suc q) left)

-- nothing to the ports before
fan_before : (k : ℕ) (y : Signal) (q left : ℕ) → k < q → writes k (fan y q left) ≡ []
unfolding fan
fan_before k y q zero l = refl
fan_before k y q (suc left) l = writes_later k q y (fan y (suc q) left) (λ e. absurd (omega (arith, l, e))) ∙ fan_before k y (suc q) left (omega (arith, l))

-- one to each of these
fan_at : (k : ℕ) (y : Signal) (q left : ℕ) → q ≤ k → k < q + left → writes k (fan y q left) ≡ y ∷ []
unfolding fan
fan_at k y q zero low high = absurd (omega (arith, low, high))
fan_at k y q (suc left) low high = elim (ports k q) [
  | inl here ↦ writes_first k q y (fan y (suc q) left) here ∙ ap (λ l. y ∷ l) (fan_before k y (suc q) left (omega (arith, here)))
  | inr other ↦ writes_later k q y (fan y (suc q) left) other ∙ fan_at k y (suc q) left (omega (arith, low, other)) (omega (arith, high))
]

-- so many messages, to so many outputs
counts_then : (n a x c y h g : ℕ) → h ≡ a + n * x → g ≡ c + n * y → h + g ≡ (a + c) + n * (x + y)
counts_then n a x c y h g e f = omega (arith, e, f, mul-add n x y)

few_then : (a x c y m w : ℕ) → x ≤ a → y ≤ c → m ≡ a + c → w ≡ x + y → w ≤ m
few_then a x c y m w f g e h = omega (arith, f, g, e, h)

one_each : (n k : ℕ) → k ≡ n → suc k ≡ 1 + n * 1
one_each n k e = omega (arith, e)

lt_true : (a b : ℕ) → a < b → nat_lt a b ≡ true
lt_true a b l = grind (arith, nat_tests)

-- an end to each output, where there is one
end_some : (n : ℕ) → 0 < n → stop ∷ [] ≡ flat_signals (cond (nat_lt 0 n) (EndFlat ∷ []) [])
unfolding signals
end_some zero l = absurd (omega (arith, l))
end_some (suc n) l = ap (λ b. flat_signals (cond b (EndFlat ∷ []) [])) (sym (lt_true 0 (suc n) l))

end_counts : (n : ℕ) → suc n ≡ 1 + n * length (flat_signals (cond (nat_lt 0 n) (EndFlat ∷ []) []))
unfolding signals
end_counts zero = refl
end_counts (suc n) = one_each (suc n) (suc n) refl ∙ ap (λ b. 1 + suc n * length (flat_signals (cond b (EndFlat ∷ []) []))) (sym (lt_true 0 (suc n) (omega arith)))

end_few : (n : ℕ) → length (flat_signals (cond (nat_lt 0 n) (EndFlat ∷ []) [])) ≤ 1
unfolding signals
end_few zero = omega arith
end_few (suc n) = subst (λ b. length (flat_signals (cond b (EndFlat ∷ []) [])) ≤ 1) (sym (lt_true 0 (suc n) (omega arith))) (omega arith)

-- and nothing where there is none
end_none : (n : ℕ) → n ≡ 0 → flat_signals (cond (nat_lt 0 n) (EndFlat ∷ []) []) ≡ []
unfolding signals
end_none zero e = refl
end_none (suc n) e = absurd (omega (arith, e))

works : (k : Phase) → is_working k ≡ true → k ≡ Working
works Working h = refl
works (Closing p) h = absurd (cc)
works (Ending q) h = absurd (cc)
works (Faulted kind) h = absurd (cc)

module _ {S : Type 0} (b : Behaviour S) where
  pub passed_none : (s : S) → (IsWrite (b.process.want s) → ⊥) → PassedOn b s [] s []
  passed_none s done = record {
    history = [];
    does = refl;
    reads_are = refl;
    no_others = λ p ne. refl;
    writes_are = λ q l. refl;
    is_done = done;
    counts = omega arith;
    few = omega arith;
    nothing = λ e. refl;
  }

  -- these messages, and then those
  pub passed_then : (s t u : S) (ms xs ns ys : List Signal) → b.outputs t ≡ b.outputs s → PassedOn b s ms t xs → PassedOn b t ns u ys → PassedOn b s (ms ++ ns) u (xs ++ ys)
  passed_then s t u ms xs ns ys same f g = record {
    history = f.history ++ g.history;
    does = does_then b.process s t u f.history g.history f.does g.does;
    reads_are = sym (reads_append 0 f.history g.history) ∙ ap (λ l. l ++ reads 0 g.history) f.reads_are ∙ ap (λ l. ms ++ l) g.reads_are;
    no_others = λ p ne. sym (reads_append p f.history g.history) ∙ ap (λ l. l ++ reads p g.history) (f.no_others p ne) ∙ g.no_others p ne;
    writes_are = λ q l. sym (writes_append q f.history g.history) ∙ ap (λ r. r ++ writes q g.history) (f.writes_are q l) ∙ ap (λ r. xs ++ r) (g.writes_are q (subst (λ k. q < k) (sym same) l));
    is_done = g.is_done;
    counts = length-append f.history g.history
        ∙ counts_then (b.outputs s) (length ms) (length xs) (length ns) (length ys) (length f.history) (length g.history) f.counts
        (g.counts ∙ ap (λ k. length ns + k * length ys) same) ∙ sym (ap (λ k. k + b.outputs s * (length xs + length ys)) (length-append ms ns))
        ∙ sym (ap (λ k. length (ms ++ ns) + b.outputs s * k) (length-append xs ys));
    few = few_then (length ms) (length xs) (length ns) (length ys) (length (ms ++ ns)) (length (xs ++ ys)) f.few g.few (length-append ms ns) (length-append xs ys);
    nothing = λ e. ap (λ l. l ++ ys) (f.nothing e) ∙ g.nothing (same ∙ e);
  }

-- there is a next state
record Next {S : Type 0} (r : Result S FaultKind) (Q : S → Type 0) : Type 0 where
  state : S
  is : r ≡ Ok state
  holds : Q state

on_next : {S : Type 0} (r : Result S FaultKind) (Q : S → Type 0) → OnNext r Q → Next r Q
on_next (Ok s) Q h = record { state = s; is = refl; holds = h }
on_next (Err kind) Q h = absurd h

not_below : (n : ℕ) → nat_lt n n ≡ false
not_below n = grind (arith, nat_tests)

none_each : (n : ℕ) → 1 ≡ 1 + n * 0
none_each n = omega arith

module _ {P S : Type 0} (m : Machine P S) (laws : MachineLaws m) (p : P) (at : ℕ) where
  -- a node that may begin an instance
  abbrev ready : NodeState (P × S)
  ready = node_state (p, m.start) Working at

  wants : (behaviour_of m).process.want ready ≡ Read 0
  wants = ap want_for (laws.begins_at_start p)

  pub reads_next : IsWrite ((behaviour_of m).process.want ready) → ⊥
  reads_next h = subst IsWrite wants h

  fan_does : (y : Signal) (left q : ℕ) (s : S) → Fans m p y q left s → Does (behaviour_of m).process (node_state (p, s) Working at) (fan y q left) ready
  unfolding fan
  fan_does y zero q s e = ap (λ s. node_state (p, s) Working at) e
  fan_does y (suc left) q s (t, x, is, moves, rest) = (
    ap (λ v. want_for (ask_of v)) moves,
    ap (λ v. carry (written_cell v)) moves ∙ is,
    subst (λ v. Does (behaviour_of m).process (node_state (p, state_after_write s v) Working at) (fan y (suc q) left) ready) (sym moves) (fan_does y left (suc q) t rest),
  )

  -- one item is passed on
  pub passed_item : (x : Signal) (y : Option Flat) → Follows m p x y → PassedOn (behaviour_of m) ready (x ∷ []) ready (signals_of y)
  passed_item stop y h = absurd h
  passed_item (carry x) None h =
      let next = on_next (state_after_read (m.move p m.start) x) (WritesAll m p None) h in
      record {
        history = Reads 0 (carry x) ∷ [];
        does = (wants, ap (went_on m ready) next.is ∙ ap (λ s. node_state (p, s) Working at) next.holds);
        reads_are = refl;
        no_others = λ k ne. reads_later k 0 (carry x) [] ne;
        writes_are = λ q l. refl;
        is_done = reads_next;
        counts = none_each (m.outputs p);
        few = omega arith;
        nothing = λ e. refl;
      }
  passed_item (carry x) (Some y) h =
      let next = on_next (state_after_read (m.move p m.start) x) (WritesAll m p (Some y)) h in
      let z = signal_of (message_of y) in
      let n = m.outputs p in
      record {
        history = Reads 0 (carry x) ∷ fan z 0 n;
        does = (wants, subst (λ r. Does (behaviour_of m).process (went_on m ready r) (fan z 0 n) ready) (sym next.is) (fan_does z n 0 next.state next.holds.1));
        reads_are = ap (λ l. carry x ∷ l) (fan_reads 0 z 0 n);
        no_others = λ k ne. reads_later k 0 (carry x) (fan z 0 n) ne ∙ fan_reads k z 0 n;
        writes_are = λ q l. fan_at q z 0 n (omega arith) (omega (arith, l));
        is_done = reads_next;
        counts = one_each n (length (fan z 0 n)) (fan_length z 0 n);
        few = omega arith;
        nothing = λ e. absurd (omega (arith, e, next.holds.0));
      }

  ends_does : (left q : ℕ) → q + left ≡ m.outputs p → Does (behaviour_of m).process (node_state (p, m.start) (Ending q) at) (fan stop q left) (node_state (p, m.start) (Ending (m.outputs p)) at)
  unfolding fan
  ends_does zero q e = ap (λ k. node_state (p, m.start) (Ending k) at) (omega (arith, e))
  ends_does (suc left) q e =
      let low : q < m.outputs p = omega (arith, e) in
      let more = ends_does left (suc q) (omega (arith, e)) in
      let last = node_state (p, m.start) (Ending (m.outputs p)) at in (
        ap (λ b. cond b (Write q) Ended) (lt_true q (m.outputs p) low),
        refl,
        subst (λ k. Does (behaviour_of m).process (node_state (p, m.start) (Ending k) at) (fan stop (suc q) left) last) (sym (add-one q)) more,
      )

  -- the end is passed on
  pub passed_end : m.inputs p ≡ 1 → PassedOn (behaviour_of m) ready (stop ∷ []) (node_state (p, m.start) (Ending (m.outputs p)) at) (flat_signals (cond (nat_lt 0 (m.outputs p)) (EndFlat ∷ []) []))
  passed_end one =
      let n = m.outputs p in
      let b = behaviour_of m in
      let last = node_state (p, m.start) (Ending n) at in
      let step : b.process.read ready stop ≡ node_state (p, m.start) (Ending 0) at = ap (λ a. at_end m a ready) (laws.begins_at_start p) ∙ ap (λ i. node_state (p, m.start) (closing 1 i) at) one in
      record {
        history = Reads 0 stop ∷ fan stop 0 n;
        does = (wants, subst (λ k. Does b.process k (fan stop 0 n) last) (sym step) (ends_does n 0 (omega arith)));
        reads_are = ap (λ l. stop ∷ l) (fan_reads 0 stop 0 n);
        no_others = λ k ne. reads_later k 0 stop (fan stop 0 n) ne ∙ fan_reads k stop 0 n;
        writes_are = λ q l. fan_at q stop 0 n (omega arith) (omega (arith, l)) ∙ end_some n (omega (arith, l));
        is_done = λ h. subst IsWrite (ap (λ t. cond t (Write n) Ended) (not_below n)) h;
        counts = ap suc (fan_length stop 0 n) ∙ end_counts n;
        few = end_few n;
        nothing = λ e. end_none n e;
      }

  -- a node passes on where it may begin an instance
  pub passes_at : (passes : P → Bool) (n : NodeState (P × S)) → n.at ≡ at → n.worker.0 ≡ p → node_passes m passes n ≡ true → n ≡ ready
  passes_at passes n e f h =
      let parts = and_parts (is_working n.phase) (is_begin (ask_of (m.move n.worker.0 n.worker.1)) && passes n.worker.0) h in
      let begin = (and_parts (is_begin (ask_of (m.move n.worker.0 n.worker.1))) (passes n.worker.0) parts.1).0 in
      let start = starts (m.move n.worker.0 n.worker.1) n.worker.0 n.worker.1 (laws.sound n.worker.0 n.worker.1) begin in
      ap (λ k. node_state n.worker k n.at) (works n.phase parts.0) ∙ ap (λ s. node_state (n.worker.0, s) Working n.at) start
      ∙ ap (λ k. node_state (k, m.start) Working n.at) f ∙ ap (λ k. node_state (p, m.start) Working k) e
    where
      starts : (v : Move S) (o : P) (s : S) → SoundAt m o s v → is_begin (ask_of v) ≡ true → s ≡ m.start
      starts (begins t) o s sound h = sound.0
      starts (takes q t) o s sound h = absurd (cc)
      starts (gives q x t) o s sound h = absurd (cc)

-- what the worker says of itself
pub says_passes : {P S : Type 0} (m : Machine P S) (passes : P → Bool) (n : NodeState (P × S)) → node_passes m passes n ≡ true → passes n.worker.0 ≡ true
says_passes m passes n h = let parts = and_parts (is_working n.phase) (is_begin (ask_of (m.move n.worker.0 n.worker.1)) && passes n.worker.0) h in
    (and_parts (is_begin (ask_of (m.move n.worker.0 n.worker.1))) (passes n.worker.0) parts.1).1

-- what a block says, one message at a time
pub said_get : (xs : List Flat) (i : ℕ) (d : Flat) → get_or (flat_signals xs) i (signal_of (message_of d)) ≡ signal_of (message_of (get_or xs i d))
unfolding signals
said_get [] i d = refl
said_get (x ∷ xs) zero d = refl
said_get (x ∷ xs) (suc i) d = said_get xs i d

pub said_append : (xs ys : List Flat) → flat_signals (xs ++ ys) ≡ flat_signals xs ++ flat_signals ys
unfolding signals
said_append [] ys = refl
said_append (x ∷ xs) ys = ap (λ l. signal_of (message_of x) ∷ l) (said_append xs ys)

-- where an end stands in an orderly block, it is the last
pub last_end : (xs : List Flat) (i : ℕ) (d : Flat) → i < length xs → orderly (flat_signals xs) ≡ true →
    is_stop (signal_of (message_of (get_or xs i d))) ≡ true → flat_signals xs ≡ flat_signals (take i xs) ++ stop ∷ []
unfolding signals orderly
last_end [] i d low h is = absurd (omega (arith, low))
last_end (EndFlat ∷ []) zero d low h is = refl
last_end (EndFlat ∷ []) (suc i) d low h is = let no : suc i < 1 = low in absurd (omega arith)
last_end (EndFlat ∷ y ∷ xs) i d low h is = absurd (cc)
last_end (UnitFlat ∷ xs) zero d low h is = absurd (cc)
last_end (BoolFlat b ∷ xs) zero d low h is = absurd (cc)
last_end (IntFlat n ∷ xs) zero d low h is = absurd (cc)
last_end (UnitFlat ∷ xs) (suc i) d low h is = let up : suc i < suc (length xs) = low in ap (λ l. signal_of (message_of UnitFlat) ∷ l) (last_end xs i d (omega arith) h is)
last_end (BoolFlat b ∷ xs) (suc i) d low h is = let up : suc i < suc (length xs) = low in ap (λ l. signal_of (message_of (BoolFlat b)) ∷ l) (last_end xs i d (omega arith) h is)
last_end (IntFlat n ∷ xs) (suc i) d low h is = let up : suc i < suc (length xs) = low in ap (λ l. signal_of (message_of (IntFlat n)) ∷ l) (last_end xs i d (omega arith) h is)

-- each item is of the kind
pub item_fits : (k : Kind) (xs : List Flat) (i : ℕ) (d : Flat) → MayCome k (flat_signals xs) → i < length xs → fits k (signal_of (message_of (get_or xs i d))) ≡ true
item_fits k xs i d come low = subst (λ s. fits k s ≡ true) (said_get xs i d) (come.fit i (signal_of (message_of d)) (subst (λ n. i < n) (sym (said_length xs)) low))

abbrev pub flats_of : Option Flat → List Flat
flats_of None = []
flats_of (Some y) = y ∷ []

flats_say : (y : Option Flat) → flat_signals (flats_of y) ≡ signals_of y
unfolding signals
flats_say None = refl
flats_say (Some y) = refl

module _ {P S : Type 0} (m : Machine P S) (laws : MachineLaws m) (passes : P → Bool) (n : NodeState (P × S)) (is : node_passes m passes n ≡ true) where
  pub none_passed : PassedOn (behaviour_of m) n [] n []
  none_passed = passed_none (behaviour_of m) n
      (subst (λ k. IsWrite ((behaviour_of m).process.want k) → ⊥) (sym (passes_at m laws n.worker.0 n.at passes n refl refl is))
      (reads_next m laws n.worker.0 n.at))

  -- one item more
  pub item_passed : (read out : List Signal) (x : Signal) (y : Option Flat) → PassedOn (behaviour_of m) n read n out → Follows m n.worker.0 x y →
      PassedOn (behaviour_of m) n (read ++ x ∷ []) n (out ++ signals_of y)
  item_passed read out x y before follows =
      let at_start = passes_at m laws n.worker.0 n.at passes n refl refl is in
      let here : PassedOn (behaviour_of m) n (x ∷ []) n (signals_of y) =
      subst (λ k. PassedOn (behaviour_of m) k (x ∷ []) k (signals_of y)) (sym at_start) (passed_item m laws n.worker.0 n.at x y follows) in
      passed_then (behaviour_of m) n n n read out (x ∷ []) (signals_of y) refl before here

  -- one message more of a block
  pub next_passed : (xs : List Flat) (i : ℕ) (d : Flat) (outs news : List Flat) (y : Option Flat) → i < length xs → PassedOn (behaviour_of m) n (flat_signals (take i xs)) n (flat_signals outs) →
      Follows m n.worker.0 (signal_of (message_of (get_or xs i d))) y → news ≡ outs ++ flats_of y → PassedOn (behaviour_of m) n (flat_signals (take (i + 1) xs)) n (flat_signals news)
  next_passed xs i d outs news y low before follows new =
      let b = behaviour_of m in
      let x = signal_of (message_of (get_or xs i d)) in
      let both = item_passed (flat_signals (take i xs)) (flat_signals outs) x y before follows in
      let said : flat_signals news ≡ flat_signals outs ++ signals_of y = ap flat_signals new ∙ said_append outs (flats_of y) ∙ ap (λ l. flat_signals outs ++ l) (flats_say y) in
      subst (λ l. PassedOn b n l n (flat_signals news)) (sym (said_more xs i d low)) (subst (λ l. PassedOn b n (flat_signals (take i xs) ++ x ∷ []) n l) (sym said) both)

  -- and the end
  pub end_passed : (read : List Signal) (out last : List Flat) (t : NodeState (P × S)) → m.inputs n.worker.0 ≡ 1 → PassedOn (behaviour_of m) n read n (flat_signals out) →
      t ≡ node_state n.worker (Ending (m.outputs n.worker.0)) n.at → last ≡ out ++ cond (nat_lt 0 (m.outputs n.worker.0)) (EndFlat ∷ []) [] →
      PassedOn (behaviour_of m) n (read ++ stop ∷ []) t (flat_signals last)
  end_passed read out last t one before ends lasts =
      let b = behaviour_of m in
      let p = n.worker.0 in
      let start = passes_at m laws p n.at passes n refl refl is in
      let more = cond (nat_lt 0 (m.outputs p)) (EndFlat ∷ []) [] in
      let over = node_state (p, m.start) (Ending (m.outputs p)) n.at in
      let there : t ≡ over = ends ∙ ap (λ k. node_state k.worker (Ending (m.outputs p)) n.at) start in
      let here : PassedOn b n (stop ∷ []) over (flat_signals more) = subst (λ k. PassedOn b k (stop ∷ []) over (flat_signals more)) (sym start) (passed_end m laws p n.at one) in
      let all = passed_then b n n over read (flat_signals out) (stop ∷ []) (flat_signals more) refl before here in
      subst (λ l. PassedOn b n (read ++ stop ∷ []) t l) (sym (ap flat_signals lasts ∙ said_append out more))
      (subst (λ k. PassedOn b n (read ++ stop ∷ []) k (flat_signals out ++ flat_signals more)) (sym there) all)
