-- What a worker makes of blocks: many messages taken or put in one call, and the history of whole rounds.
use Rattle.std.proofs.Common.{◌≡◌, ℕ, ℤ, zero, suc, ◌+◌, ◌<◌, ◌≤◌, Bool, true, false, cond, eqb, List, [], ◌∷◌, ◌++◌, length, take, refl, sym}
use Rattle.std.proofs.Common.{◌∙◌, ap, subst, arith, append-nil, append_assoc, length-append, eq-eqb, ne_eqb, inl, inr}
use Rattle.std.proofs.lemmas.Bool.{cases_eq, cases_Bool}
use Rattle.std.proofs.lemmas.List.{take-append-le, take-map, length-map}
use mathlib.Core.List.{IsPrefix}
use Rattle.kahn.specs.declared.want.Want.TheVariants.{Read, Write}
use Rattle.kahn.specs.Processes.{Event, Reads, Writes, Does}
use Rattle.kahn.proofs.History.{does_then}
use Rattle.flow_messages.specs.Cells.{Cell, unit, flag, int}
use Rattle.flow_messages.specs.Signals.{Signal, carry, stop, ended}
use Rattle.flow_messages.specs.Ends.{View, SameEnds, TakenAll, PutAll}
use Rattle.flow_messages.specs.Blocks.{unit_signals, flag_signals, int_signals}
use Rattle.flow_base.specs.Transducers.{Behaviour}
use Rattle.flow_base.specs.Visits.{read_from, sent_after, edge_of, IsNone, Went}
use Rattle.flow_base.proofs.Carried.{same_ends_refl, same_ends_then, prefix_same, prefix_then, read_append, sent_append}
use Rattle.flow_base.proofs.Visits.{not_at}
use Rattle.flow_base.proofs.Kernels.{went_further}

-- a block, and more of it
pub block_then : (b : Bool) (xs ys : List Signal) → cond b xs [] ++ cond b ys [] ≡ cond b (xs ++ ys) []
block_then true xs ys = refl
block_then false xs ys = refl

-- blocks that have not ended
pub ended_none : ended [] ≡ false
unfolding ended
ended_none = refl

pub ended_append : (ms ns : List Signal) → ended ms ≡ false → ended ns ≡ false → ended (ms ++ ns) ≡ false
unfolding ended
ended_append [] ns free other = other
ended_append (carry x ∷ ms) ns free other = ended_append ms ns free other
ended_append (stop ∷ ms) ns free other = absurd (cc)

pub ended_block : (b : Bool) (ms : List Signal) → ended ms ≡ false → ended (cond b ms []) ≡ false
ended_block true ms free = free
ended_block false ms free = ended_none

pub ended_one : (x : Cell) → ended (carry x ∷ []) ≡ false
unfolding ended
ended_one x = refl

pub ended_units : (n : ℕ) → ended (unit_signals n) ≡ false
unfolding ended
ended_units zero = refl
ended_units (suc n) = ended_units n

pub ended_flags : (bs : List Bool) → ended (flag_signals bs) ≡ false
unfolding ended
ended_flags [] = refl
ended_flags (b ∷ bs) = ended_flags bs

pub ended_ints : (ns : List ℤ) → ended (int_signals ns) ≡ false
unfolding ended
ended_ints [] = refl
ended_ints (n ∷ ns) = ended_ints ns

-- the first of a block
pub take_flags : (k : ℕ) (bs : List Bool) → take k (flag_signals bs) ≡ flag_signals (take k bs)
take_flags k bs = take-map (λ b. carry (flag b)) k bs

pub take_ints : (k : ℕ) (ns : List ℤ) → take k (int_signals ns) ≡ int_signals (take k ns)
take_ints k ns = take-map (λ n. carry (int n)) k ns

pub take_units : (k n : ℕ) → k ≤ n → take k (unit_signals n) ≡ unit_signals k
take_units zero n within = refl
take_units (suc k) zero within = absurd (omega arith)
take_units (suc k) (suc n) within = ap (λ l. carry unit ∷ l) (take_units k n (omega arith))

-- how long blocks are
pub length_units : (n : ℕ) → length (unit_signals n) ≡ n
length_units zero = refl
length_units (suc n) = omega (arith, length_units n)

pub length_flags : (bs : List Bool) → length (flag_signals bs) ≡ length bs
length_flags bs = length-map bs (λ b. carry (flag b))

pub length_ints : (ns : List ℤ) → length (int_signals ns) ≡ length ns
length_ints ns = length-map ns (λ n. carry (int n))

-- what is shown is what is certain, as far as it goes
pub shown : (ms c : List Signal) (k : ℕ) → IsPrefix ms c → k ≤ length ms → take k c ≡ take k ms
shown ms c k (more, is) within = ap (take k) (sym is) ∙ take-append-le k ms more within

-- what is skipped is what was shown
pub skipped : (k : ℕ) (ms block : List Signal) (v : View) (e : ℕ) (w : View) → IsPrefix ms (v.coming e) → k ≤ length ms → take k ms ≡ block →
    TakenAll v e (take k (v.coming e)) w → TakenAll v e block w
skipped k ms block v e w first within is taken = subst (λ l. TakenAll v e l w) (shown ms (v.coming e) k first within ∙ is) taken

-- what was sent, with one block more and with two
pub after_then : (l ms ns : List Signal) → ended ms ≡ false →
    cond (ended (cond (ended l) l (l ++ ms))) (cond (ended l) l (l ++ ms)) (cond (ended l) l (l ++ ms) ++ ns) ≡ cond (ended l) l (l ++ (ms ++ ns))
after_then l ms ns unended = elim (cases_Bool (ended l)) [
  | inl shut ↦ grind (arith, shut)
  | inr free ↦ let still = ended_append l ms free unended in let same = append_assoc l ms ns in grind (arith, free, still, same)
]

-- and with none
pub after_none : (l : List Signal) → l ≡ cond (ended l) l (l ++ [])
after_none l = elim (cases_Bool (ended l)) [
  | inl shut ↦ ap (λ b. cond b l (l ++ [])) (sym shut)
  | inr free ↦ sym (append-nil l) ∙ ap (λ b. cond b l (l ++ [])) (sym free)
]

-- a block that goes to this edge or to another
after_row : (b : Bool) (l ms : List Signal) → cond b (cond (ended l) l (l ++ ms)) l ≡ cond (ended l) l (l ++ cond b ms [])
after_row true l ms = refl
after_row false l ms = after_none l

-- what many takes add to what was received from edge e
pub taken_all_received : (v w : View) (f e : ℕ) (ms : List Signal) → TakenAll v f ms w → w.received e ≡ v.received e ++ cond (eqb e f) ms []
taken_all_received v w f e ms t = elim (cases_eq e f) [
  | inl at ↦ ap w.received at ∙ t.received ∙ ap (λ k. v.received k ++ ms) (sym at) ∙ ap (λ b. v.received e ++ cond b ms []) (sym (eq-eqb e f at))
  | inr ne ↦ t.others e ne ∙ sym (append-nil (v.received e)) ∙ ap (λ b. v.received e ++ cond b ms []) (sym (ne_eqb e f ne))
]

pub taken_all_room : (v w : View) (f e : ℕ) (ms : List Signal) → TakenAll v f ms w → v.room e ≤ w.room e
taken_all_room v w f e ms t = elim (cases_eq e f) [
  | inl at ↦ omega (arith, t.room_here, ap v.room at, ap w.room at)
  | inr ne ↦ omega (arith, t.room e ne)
]

-- what many puts add to what was sent on edge e
put_all_sent : (v w : View) (f e : ℕ) (ms : List Signal) → PutAll v f ms w → w.sent e ≡ cond (ended (v.sent e)) (v.sent e) (v.sent e ++ cond (eqb e f) ms [])
put_all_sent v w f e ms p = elim (cases_eq e f) [
  | inl at ↦ ap w.sent at ∙ p.sent ∙ ap (λ k. cond (ended (v.sent k)) (v.sent k) (v.sent k ++ ms)) (sym at)
      ∙ ap (λ b. cond (ended (v.sent e)) (v.sent e) (v.sent e ++ cond b ms [])) (sym (eq-eqb e f at))
  | inr ne ↦ p.others e ne ∙ after_none (v.sent e) ∙ ap (λ b. cond (ended (v.sent e)) (v.sent e) (v.sent e ++ cond b ms [])) (sym (ne_eqb e f ne))
]

put_all_coming : (v w : View) (f e : ℕ) (ms : List Signal) → PutAll v f ms w → IsPrefix (v.coming e) (w.coming e)
put_all_coming v w f e ms p = elim (cases_eq e f) [
  | inl at ↦ subst (λ k. IsPrefix (v.coming k) (w.coming k)) (sym at) p.coming_here
  | inr ne ↦ prefix_same (v.coming e) (w.coming e) (p.coming e ne)
]

module _ (inputs outputs : List ℕ) where
  -- what was taken from each edge and put on each, and the other ends lost nothing
  pub record Shifted (reads writes : ℕ → List Signal) (v w : View) : Type 0 where
    pub ends : SameEnds v w
    pub received : (e : ℕ) → w.received e ≡ v.received e ++ reads e
    pub sent : (e : ℕ) → w.sent e ≡ cond (ended (v.sent e)) (v.sent e) (v.sent e ++ writes e)
    pub no_end : (e : ℕ) → ended (writes e) ≡ false
    pub coming : (e : ℕ) → IsNone inputs e → IsPrefix (v.coming e) (w.coming e)
    pub room : (e : ℕ) → IsNone outputs e → v.room e ≤ w.room e

  pub shifted_none : (v : View) → Shifted (λ e. []) (λ e. []) v v
  shifted_none v = record {
    ends = same_ends_refl v;
    received = λ e. sym (append-nil (v.received e));
    sent = λ e. after_none (v.sent e);
    no_end = λ e. ended_none;
    coming = λ e none. prefix_same (v.coming e) (v.coming e) refl;
    room = λ e none. omega arith;
  }

  module _ {reads writes : ℕ → List Signal} {v u : View} (made : Shifted reads writes v u) where
    -- many messages are taken
    pub shifted_skip : (p : ℕ) (ms : List Signal) (w : View) → p < length inputs → TakenAll u (edge_of inputs p) ms w → Shifted (λ e. reads e ++ cond (eqb e (edge_of inputs p)) ms []) writes v w
    shifted_skip p ms w there taken =
        let f = edge_of inputs p in
        record {
          ends = same_ends_then v u w made.ends taken.ends;
          received = λ e. taken_all_received u w f e ms taken ∙ ap (λ l. l ++ cond (eqb e f) ms []) (made.received e) ∙ append_assoc (v.received e) (reads e) (cond (eqb e f) ms []);
          sent = λ e. taken.sent e ∙ made.sent e;
          no_end = made.no_end;
          coming = λ e none. prefix_then (v.coming e) (u.coming e) (w.coming e) (made.coming e none) (prefix_same (u.coming e) (w.coming e) (taken.coming e (not_at inputs e p none there)));
          room = λ e none. omega (arith, made.room e none, taken_all_room u w f e ms taken);
        }

    -- many messages are put
    pub shifted_put : (q : ℕ) (ms : List Signal) (w : View) → q < length outputs → ended ms ≡ false → PutAll u (edge_of outputs q) ms w →
        Shifted reads (λ e. writes e ++ cond (eqb e (edge_of outputs q)) ms []) v w
    shifted_put q ms w there free put =
        let g = edge_of outputs q in
        record {
          ends = same_ends_then v u w made.ends put.ends;
          received = λ e. put.received e ∙ made.received e;
          sent = λ e. put_all_sent u w g e ms put ∙ ap (λ l. cond (ended l) l (l ++ cond (eqb e g) ms [])) (made.sent e) ∙ after_then (v.sent e) (writes e) (cond (eqb e g) ms []) (made.no_end e);
          no_end = λ e. ended_append (writes e) (cond (eqb e g) ms []) (made.no_end e) (ended_block (eqb e g) ms free);
          coming = λ e none. prefix_then (v.coming e) (u.coming e) (w.coming e) (made.coming e none) (put_all_coming u w g e ms put);
          room = λ e none. omega (arith, made.room e none, put.room e (not_at outputs e q none there));
        }

  module _ {S : Type 0} (b : Behaviour S) where
    -- whole rounds from s to t, which read and write just these messages, in so many steps; no end is written
    pub record Batch (s t : S) (reads writes : ℕ → List Signal) (n : ℕ) : Type 0 where
      pub history : List (Event Signal)
      pub does : Does b.process s history t
      pub counts : length history ≡ n
      pub read : (e : ℕ) → read_from (edge_of inputs) e history ≡ reads e
      pub wrote : (e : ℕ) (l : List Signal) → sent_after (edge_of outputs) e l history ≡ cond (ended l) l (l ++ writes e)
      pub no_end : (e : ℕ) → ended (writes e) ≡ false

    pub batch_none : (s : S) → Batch s s (λ e. []) (λ e. []) 0
    unfolding read_from sent_after
    batch_none s = record {
      history = [];
      does = refl;
      counts = refl;
      read = λ e. refl;
      wrote = λ e l. after_none l;
      no_end = λ e. ended_none;
    }

    module _ {s t : S} {reads writes : ℕ → List Signal} {n : ℕ} (made : Batch s t reads writes n) where
      -- it reads a message
      pub batch_read : (p : ℕ) (m : Signal) (u : S) → b.process.want t ≡ Read p → u ≡ b.process.read t m → Batch s u (λ e. reads e ++ cond (eqb e (edge_of inputs p)) (m ∷ []) []) writes (n + 1)
      unfolding read_from sent_after
      batch_read p m u wants is =
          let h = made.history in
          record {
            history = h ++ Reads p m ∷ [];
            does = does_then b.process s t u h (Reads p m ∷ []) made.does (wants, sym is);
            counts = length-append h (Reads p m ∷ []) ∙ ap (λ l. l + 1) made.counts;
            read = λ e. sym (read_append (edge_of inputs) e h (Reads p m ∷ [])) ∙ ap (λ l. l ++ cond (eqb e (edge_of inputs p)) (m ∷ []) []) (made.read e);
            wrote = λ e l. sent_append (edge_of outputs) e l h (Reads p m ∷ []) ∙ made.wrote e l;
            no_end = made.no_end;
          }

      -- it writes an item
      pub batch_write : (q : ℕ) (x : Cell) (u : S) → b.process.want t ≡ Write q → carry x ≡ b.process.written t → u ≡ b.process.wrote t →
          Batch s u reads (λ e. writes e ++ cond (eqb e (edge_of outputs q)) (carry x ∷ []) []) (n + 1)
      unfolding read_from sent_after
      batch_write q x u wants told is =
          let h = made.history in
          let g = edge_of outputs q in
          record {
            history = h ++ Writes q (carry x) ∷ [];
            does = does_then b.process s t u h (Writes q (carry x) ∷ []) made.does (wants, sym told, sym is);
            counts = length-append h (Writes q (carry x) ∷ []) ∙ ap (λ l. l + 1) made.counts;
            read = λ e. sym (read_append (edge_of inputs) e h (Writes q (carry x) ∷ [])) ∙ append-nil (read_from (edge_of inputs) e h) ∙ made.read e;
            wrote = λ e l. sent_append (edge_of outputs) e l h (Writes q (carry x) ∷ [])
                ∙ ap (λ k. cond (eqb e g) (cond (ended k) k (k ++ carry x ∷ [])) k) (made.wrote e l)
                ∙ after_row (eqb e g) (cond (ended l) l (l ++ writes e)) (carry x ∷ [])
                ∙ after_then l (writes e) (cond (eqb e g) (carry x ∷ []) []) (made.no_end e);
            no_end = λ e. ended_append (writes e) (cond (eqb e g) (carry x ∷ []) []) (made.no_end e) (ended_block (eqb e g) (carry x ∷ []) (ended_one x));
          }

      -- and then more rounds
      pub batch_then : {u : S} {reads' writes' : ℕ → List Signal} {k : ℕ} → Batch t u reads' writes' k → Batch s u (λ e. reads e ++ reads' e) (λ e. writes e ++ writes' e) (n + k)
      batch_then {u} {reads'} {writes'} {k} next =
          let g = made.history in
          let h = next.history in
          record {
            history = g ++ h;
            does = does_then b.process s t u g h made.does next.does;
            counts = length-append g h ∙ ap (λ l. l + length h) made.counts ∙ ap (λ l. n + l) next.counts;
            read = λ e. sym (read_append (edge_of inputs) e g h) ∙ ap (λ l. l ++ read_from (edge_of inputs) e h) (made.read e) ∙ ap (λ l. reads e ++ l) (next.read e);
            wrote = λ e l. sent_append (edge_of outputs) e l g h ∙ ap (λ k. sent_after (edge_of outputs) e k h) (made.wrote e l)
                ∙ next.wrote e (cond (ended l) l (l ++ writes e)) ∙ after_then l (writes e) (writes' e) (made.no_end e);
            no_end = λ e. ended_append (writes e) (writes' e) (made.no_end e) (next.no_end e);
          }

      -- the same messages, told otherwise
      pub batch_as : (reads' writes' : ℕ → List Signal) → ((e : ℕ) → reads e ≡ reads' e) → ((e : ℕ) → writes e ≡ writes' e) → Batch s t reads' writes' n
      batch_as reads' writes' same_reads same_writes = record {
        history = made.history;
        does = made.does;
        counts = made.counts;
        read = λ e. made.read e ∙ same_reads e;
        wrote = λ e l. made.wrote e l ∙ ap (λ k. cond (ended l) l (l ++ k)) (same_writes e);
        no_end = λ e. ap ended (sym (same_writes e)) ∙ made.no_end e;
      }

      -- rounds over the blocks of the ends are steps
      pub batch_went : {v w : View} → Shifted reads writes v w → 0 < n → Went inputs outputs b s v t w n
      batch_went {v} {w} shifted some = record {
        history = made.history;
        does = made.does;
        counts = made.counts;
        carried = record {
          received = λ e. shifted.received e ∙ ap (λ l. v.received e ++ l) (sym (made.read e));
          sent = λ e. shifted.sent e ∙ sym (made.wrote e (v.sent e));
        };
        spares = record { coming = shifted.coming; room = shifted.room };
        calm = λ none. absurd (omega arith);
      }

    -- what was made goes on by rounds over the blocks of its ends
    pub went_batch : {s : S} {a : View} {t : S} {v : View} {n : ℕ} {u : S} {reads writes : ℕ → List Signal} {k : ℕ} → Went inputs outputs b s a t v n
        → Batch t u reads writes k → 0 < k → (w : View) → Shifted reads writes v w → Went inputs outputs b s a u w (n + k)
    went_batch went rounds some w shifted = went_further b inputs outputs went (batch_went rounds shifted some)
