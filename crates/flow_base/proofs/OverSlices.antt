-- Steps of a machine along slices are steps of a node over its edges.
use Rattle.std.proofs.Common.{◌≡◌, ◌≢◌, ℕ, zero, suc, ◌+◌, ◌<◌, ◌≤◌, Bool, true, false, cond, eqb, nat_lt, List, [], ◌∷◌, ◌++◌, length, take, refl}
use Rattle.std.proofs.Common.{sym, ◌∙◌, ap, subst, arith, append-nil, append_assoc, length-append, eq-eqb, ne_eqb, inl, inr}
use Rattle.std.proofs.lemmas.Bool.{cases_eq, cases_lt}
use Rattle.std.proofs.lemmas.Bool.Decides.{nat_tests}
use Rattle.std.specs.List.{All}
use Rattle.std.proofs.lemmas.List.Elements.{All-weaker}
use mathlib.Core.List.{IsPrefix}
use Rattle.kahn.specs.Processes.{Event, Reads, Writes, Does, reads, writes}
use Rattle.flow_messages.specs.Signals.{Signal, carry, stop, ended}
use Rattle.flow_messages.specs.Ends.{View, SameEnds, TakenAll, PutAll}
use Rattle.flow_messages.proofs.Fitting.{takes_still}
use Rattle.flow_messages.specs.declared.message.Kind.{Kind}
use Rattle.flow_messages.specs.declared.message.Kind.TheVariants.{Unit as UnitKind, Bool as BoolKind, Int as IntKind, Vec as VecKind}
use Rattle.flow_base.specs.Along.{RunsAlong, AreApart, PutOnEach, from_each, written_signals, written_at}
use Rattle.flow_base.specs.Machines.{Machine}
use Rattle.flow_base.specs.Nodes.{behaviour_of, node_state}
use Rattle.flow_base.specs.Transducers.{BehaviourLaws}
use Rattle.flow_base.specs.Visits.{read_from, sent_after, edge_of, TakeKinds, Went}
use Rattle.flow_base.specs.declared.node.Phase.TheVariants.{Working}
use Rattle.flow_base.specs.declared.slices.Moved.{Moved}
use Rattle.flow_base.specs.declared.slices.Written.{Written}
use Rattle.flow_base.proofs.Carried.{same_ends_refl, same_ends_then, prefix_same, prefix_then}
use Rattle.flow_base.proofs.Reached.{opening_does}
use Rattle.flow_base.proofs.Visits.{not_at}
use Rattle.flow_base.proofs.Batches.{Batch, Shifted, after_none, after_then, batch_went, taken_all_received, taken_all_room, ended_none, ended_append}
use Rattle.flow_base.proofs.Batches.{ended_block, ended_units, ended_flags, ended_ints, shifted_put, shown}
use Rattle.flow_base.proofs.Along.{no_messages, nothing_said}

-- so many ports have edges of their own
abbrev pub Apart : (ℕ → ℕ) → ℕ → Type 0
Apart edge n = (p q : ℕ) → p < q → q < n → edge p ≢ edge q

-- what comes to an edge where no port has messages
pub from_nothing : (edge : ℕ → ℕ) (n e : ℕ) (ms : ℕ → List Signal) → ((p : ℕ) → p < n → ms p ≡ []) → from_each edge n ms e ≡ no_messages
from_nothing edge zero e ms none = refl
from_nothing edge (suc n) e ms none =
    let before = from_nothing edge n e ms (λ p lt. none p (omega (arith, lt))) in
    let here = none n (omega arith) in
    ap (λ l. l ++ cond (eqb e (edge n)) (ms n) []) before ∙ ap (λ l. cond (eqb e (edge n)) l no_messages) here ∙ nothing_said (eqb e (edge n))

-- the same messages
pub from_same : (edge : ℕ → ℕ) (n e : ℕ) (ms ms' : ℕ → List Signal) → ((p : ℕ) → p < n → ms p ≡ ms' p) → from_each edge n ms e ≡ from_each edge n ms' e
from_same edge zero e ms ms' same = refl
from_same edge (suc n) e ms ms' same =
    let before = from_same edge n e ms ms' (λ p lt. same p (omega (arith, lt))) in
    let here = same n (omega arith) in
    ap (λ l. l ++ cond (eqb e (edge n)) (ms n) []) before ∙ ap (λ l. from_each edge n ms' e ++ cond (eqb e (edge n)) l []) here

-- an edge of no port gets nothing
from_nowhere : (edge : ℕ → ℕ) (n e : ℕ) (ms : ℕ → List Signal) → ((p : ℕ) → p < n → e ≢ edge p) → from_each edge n ms e ≡ no_messages
from_nowhere edge zero e ms other = refl
from_nowhere edge (suc n) e ms other =
    let before = from_nowhere edge n e ms (λ p lt. other p (omega (arith, lt))) in
    let here = ne_eqb e (edge n) (other n (omega arith)) in
    ap (λ l. l ++ cond (eqb e (edge n)) (ms n) []) before ∙ ap (λ b. cond b (ms n) no_messages) here

-- what no port has ended no edge gets an end of
pub from_free : (edge : ℕ → ℕ) (n e : ℕ) (ms : ℕ → List Signal) → ((p : ℕ) → ended (ms p) ≡ false) → ended (from_each edge n ms e) ≡ false
from_free edge zero e ms free = ended_none
from_free edge (suc n) e ms free = ended_append (from_each edge n ms e) (cond (eqb e (edge n)) (ms n) []) (from_free edge n e ms free) (ended_block (eqb e (edge n)) (ms n) (free n))

put_first : (b : Bool) (m : Signal) (x y : List Signal) → cond b (m ∷ x) x ++ y ≡ cond b (m ∷ (x ++ y)) (x ++ y)
put_first true m x y = refl
put_first false m x y = refl

last_more : (b c : Bool) (x x' y y' : List Signal) (m : Signal) → x' ≡ x → y' ≡ m ∷ y → c ≡ b → (b ≡ true → x ≡ no_messages) → x' ++ cond b y' [] ≡ cond c (m ∷ (x ++ cond b y [])) (x ++ cond b y [])
last_more true c x x' y y' m before here same none =
    let nil : x ≡ no_messages = none refl in
    ap (λ l. l ++ y') (before ∙ nil) ∙ here ∙ ap (λ l. m ∷ (l ++ y)) (sym nil) ∙ ap (λ d. cond d (m ∷ (x ++ y)) (x ++ y)) (sym same)
last_more false c x x' y y' m before here same none = ap (λ l. l ++ []) before ∙ ap (λ d. cond d (m ∷ (x ++ [])) (x ++ [])) (sym same)

-- one message more of a port comes first on its edge
from_more : (edge : ℕ → ℕ) (n : ℕ) → Apart edge n → (p : ℕ) → p < n → (m : Signal) (ms ms' : ℕ → List Signal) → ms' p ≡ m ∷ ms p →
    ((q : ℕ) → q ≢ p → ms' q ≡ ms q) → (e : ℕ) → from_each edge n ms' e ≡ cond (eqb e (edge p)) (m ∷ from_each edge n ms e) (from_each edge n ms e)
from_more edge zero apart p there m ms ms' is other e = absurd (omega (arith, there))
from_more edge (suc n) apart p there m ms ms' is other e = elim (cases_eq p n) [
  | inl at ↦ (let before = from_same edge n e ms' ms (λ q lt. other q (λ same. omega (arith, same, lt, at))) in
      let here : ms' n ≡ m ∷ ms n = subst (λ k. ms' k ≡ m ∷ ms k) at is in
      let same : eqb e (edge p) ≡ eqb e (edge n) = ap (λ k. eqb e (edge k)) at in
      last_more (eqb e (edge n)) (eqb e (edge p)) (from_each edge n ms e) (from_each edge n ms' e) (ms n) (ms' n) m before here same (λ on. elim (cases_eq e (edge n)) [
        | inl same_edge ↦ from_nowhere edge n e ms (λ q lt equal. apart q n lt (omega arith) (sym equal ∙ same_edge))
        | inr ne ↦ absurd (let no = ne_eqb e (edge n) ne in cc)
      ]))
  | inr ne ↦ (let before = from_more edge n (λ a b lt le. apart a b lt (omega (arith, le))) p (omega (arith, there, ne)) m ms ms' is other e in
      let here = other n (λ same. ne (sym same)) in
      let b = eqb e (edge p) in
      let f = from_each edge n ms e in
      ap (λ l. l ++ cond (eqb e (edge n)) (ms' n) []) before ∙ ap (λ l. cond b (m ∷ f) f ++ cond (eqb e (edge n)) l []) here ∙ put_first b m f (cond (eqb e (edge n)) (ms n) []))
]

-- an event of a port is one of its messages
one_read : (p : ℕ) (m : Signal) (h : List (Event Signal)) → reads p (Reads p m ∷ h) ≡ m ∷ reads p h
one_read p m h = ap (λ b. cond b (m ∷ reads p h) (reads p h)) (eq-eqb p p refl)

other_read : (q p : ℕ) (m : Signal) (h : List (Event Signal)) → q ≢ p → reads q (Reads p m ∷ h) ≡ reads q h
other_read q p m h ne = ap (λ b. cond b (m ∷ reads q h) (reads q h)) (ne_eqb q p ne)

one_write : (p : ℕ) (m : Signal) (h : List (Event Signal)) → writes p (Writes p m ∷ h) ≡ m ∷ writes p h
one_write p m h = ap (λ b. cond b (m ∷ writes p h) (writes p h)) (eq-eqb p p refl)

other_write : (q p : ℕ) (m : Signal) (h : List (Event Signal)) → q ≢ p → writes q (Writes p m ∷ h) ≡ writes q h
other_write q p m h ne = ap (λ b. cond b (m ∷ writes q h) (writes q h)) (ne_eqb q p ne)

not_none : (m : Signal) (ms : List Signal) → m ∷ ms ≡ [] → ⊥
not_none m ms is = absurd (cc)

-- what the events read from an edge
pub read_each : (edge : ℕ → ℕ) (n : ℕ) → Apart edge n → (h : List (Event Signal)) → ((p : ℕ) → n ≤ p → reads p h ≡ []) → (e : ℕ) → read_from edge e h ≡ from_each edge n (λ p. reads p h) e
unfolding read_from
read_each edge n apart [] none e = sym (from_nothing edge n e (λ p. no_messages) (λ p lt. refl))
read_each edge n apart (Writes q m ∷ h) none e = read_each edge n apart h none e
read_each edge n apart (Reads p m ∷ h) none e = elim (cases_lt p n) [
  | inl there ↦ (let rest = read_each edge n apart h (λ q le. sym (other_read q p m h (λ same. omega (arith, same, there, le))) ∙ none q le) e in
      ap (λ l. cond (eqb e (edge p)) (m ∷ l) l) rest ∙ sym (from_more edge n apart p there m (λ q. reads q h) (λ q. reads q (Reads p m ∷ h)) (one_read p m h) (λ q ne. other_read q p m h ne) e))
  | inr over ↦ absurd (not_none m (reads p h) (sym (one_read p m h) ∙ none p over))
]

-- a list without an end begins with none
first_free : (m : Signal) (ms : List Signal) → ended (m ∷ ms) ≡ false → ended (m ∷ []) ≡ false
unfolding ended
first_free (carry x) ms free = refl
first_free stop ms free = absurd (cc)

rest_free : (m : Signal) (ms : List Signal) → ended (m ∷ ms) ≡ false → ended ms ≡ false
unfolding ended
rest_free (carry x) ms free = free
rest_free stop ms free = absurd (cc)

-- one message more on its edge, or on another
more_sent : (b : Bool) (l f : List Signal) (m : Signal) → ended (m ∷ []) ≡ false →
    cond (ended (cond b (cond (ended l) l (l ++ m ∷ [])) l)) (cond b (cond (ended l) l (l ++ m ∷ [])) l) (cond b (cond (ended l) l (l ++ m ∷ [])) l ++ f) ≡ cond (ended l) l (l ++ cond b (m ∷ f) f)
more_sent true l f m free = after_then l (m ∷ []) f free
more_sent false l f m free = refl

-- what the events send on an edge
pub sent_each : (edge : ℕ → ℕ) (n : ℕ) → Apart edge n → (h : List (Event Signal)) → ((q : ℕ) → n ≤ q → writes q h ≡ []) →
    ((q : ℕ) → ended (writes q h) ≡ false) → (e : ℕ) (l : List Signal) → sent_after edge e l h
    ≡ cond (ended l) l (l ++ from_each edge n (λ q. writes q h) e)
unfolding sent_after
sent_each edge n apart [] none free e l = after_none l ∙ ap (λ k. cond (ended l) l (l ++ k)) (sym (from_nothing edge n e (λ q. no_messages) (λ q lt. refl)))
sent_each edge n apart (Reads q m ∷ h) none free e l = sent_each edge n apart h none free e l
sent_each edge n apart (Writes p m ∷ h) none free e l = elim (cases_lt p n) [
  | inl there ↦ (let first : ended (m ∷ writes p h) ≡ false = ap ended (sym (one_write p m h)) ∙ free p in
      let rest : (q : ℕ) → ended (writes q h) ≡ false = λ q. elim (cases_eq q p) [
        | inl at ↦ subst (λ k. ended (writes k h) ≡ false) (sym at) (rest_free m (writes p h) first)
        | inr ne ↦ ap ended (sym (other_write q p m h ne)) ∙ free q
      ] in
      let next = cond (eqb e (edge p)) (cond (ended l) l (l ++ m ∷ [])) l in
      let so_far = sent_each edge n apart h (λ q le. sym (other_write q p m h (λ same. omega (arith, same, there, le))) ∙ none q le) rest e next in
      so_far ∙ more_sent (eqb e (edge p)) l (from_each edge n (λ q. writes q h) e) m (first_free m (writes p h) first)
      ∙ ap (λ k. cond (ended l) l (l ++ k))
      (sym (from_more edge n apart p there m (λ q. writes q h) (λ q. writes q (Writes p m ∷ h)) (one_write p m h) (λ q ne. other_write q p m h ne)
      e)))
  | inr over ↦ absurd (not_none m (writes p h) (sym (one_write p m h) ∙ none p over))
]

-- what is read at two ports, and nothing at others
abbrev pub at_ports : List Signal → List Signal → ℕ → List Signal
at_ports xs ys zero = xs
at_ports xs ys (suc zero) = ys
at_ports xs ys (suc (suc p)) = []

-- the edges of two ports
pub two_ports : (edge : ℕ → ℕ) (n e : ℕ) (xs ys : List Signal) → (n ≤ 0 → xs ≡ []) → (n ≤ 1 → ys ≡ []) → cond (eqb e (edge 0)) xs []
    ++ cond (eqb e (edge 1)) ys [] ≡ from_each edge n (at_ports xs ys) e
two_ports edge zero e xs ys no_first no_second =
    ap (λ l. cond (eqb e (edge 0)) l no_messages ++ cond (eqb e (edge 1)) ys []) (no_first (omega arith))
    ∙ ap (λ l. l ++ cond (eqb e (edge 1)) ys []) (nothing_said (eqb e (edge 0)))
    ∙ ap (λ l. cond (eqb e (edge 1)) l no_messages) (no_second (omega arith)) ∙ nothing_said (eqb e (edge 1))
two_ports edge (suc zero) e xs ys no_first no_second =
    let first = cond (eqb e (edge 0)) xs [] in
    ap (λ l. first ++ cond (eqb e (edge 1)) l no_messages) (no_second (omega arith)) ∙ ap (λ l. first ++ l) (nothing_said (eqb e (edge 1))) ∙ append-nil first
two_ports edge (suc (suc zero)) e xs ys no_first no_second = refl
two_ports edge (suc (suc (suc n))) e xs ys no_first no_second =
    let before = two_ports edge (suc (suc n)) e xs ys (λ le. absurd (omega (arith, le))) (λ le. absurd (omega (arith, le))) in
    let so_far = from_each edge (suc (suc n)) (at_ports xs ys) e in
    before ∙ sym (append-nil so_far) ∙ ap (λ l. so_far ++ l) (sym (nothing_said (eqb e (edge (suc (suc n))))))

module _ {P S : Type 0} (m : Machine P S) {old new : P × S} {xs ys : List Signal} {written : ℕ → List Signal} {n : ℕ} (ran : RunsAlong m old new xs ys written n) where
  ports_read : (p : ℕ) → reads p ran.history ≡ at_ports xs ys p
  ports_read zero = ran.reads_first
  ports_read (suc zero) = ran.reads_second
  ports_read (suc (suc p)) = ran.no_others (suc (suc p)) (omega arith)

  module _ (inputs outputs : List ℕ) (inputs_apart : AreApart inputs) (outputs_apart : AreApart outputs) (no_first : length inputs ≤ 0 → xs ≡ []) (no_second : length inputs ≤ 1 → ys ≡ [])
      (no_more : (q : ℕ) → length outputs ≤ q → written q ≡ []) (free : (q : ℕ) → ended (written q) ≡ false) where
    none_over : (p : ℕ) → length inputs ≤ p → reads p ran.history ≡ []
    none_over zero over = ports_read zero ∙ no_first over
    none_over (suc zero) over = ports_read (suc zero) ∙ no_second over
    none_over (suc (suc p)) over = ports_read (suc (suc p))

    -- the same steps over edges
    pub along_batch : (at : ℕ) →
        Batch inputs outputs (behaviour_of m) (node_state old Working at) (node_state new Working at)
        (λ e. cond (eqb e (edge_of inputs 0)) xs [] ++ cond (eqb e (edge_of inputs 1)) ys []) (from_each (edge_of outputs) (length outputs) written) n
    along_batch at =
        let h = ran.history in
        let ins = edge_of inputs in
        let outs = edge_of outputs in
        record {
          history = h;
          does = ran.does at;
          counts = ran.counts;
          read = λ e. read_each ins (length inputs) inputs_apart h none_over e
              ∙ from_same ins (length inputs) e (λ p. reads p h) (at_ports xs ys) (λ p lt. ports_read p)
              ∙ sym (two_ports ins (length inputs) e xs ys no_first no_second);
          wrote = λ e l. sent_each outs (length outputs) outputs_apart h (λ q over. ran.writes_are q ∙ no_more q over)
              (λ q. ap ended (ran.writes_are q) ∙ free q) e l
              ∙ ap (λ k. cond (ended l) l (l ++ k)) (from_same outs (length outputs) e (λ q. writes q h) written (λ q lt. ran.writes_are q));
          no_end = λ e. from_free outs (length outputs) e written free;
        }

-- what is written ends no stream
pub written_free : (block : Written) (made : Moved) (kind : Kind) → ended (written_signals block made kind) ≡ false
written_free block made UnitKind = ended_units made.units
written_free block made BoolKind = ended_flags (take made.flags block.flags)
written_free block made IntKind = ended_ints (take made.ints block.ints)
written_free block made VecKind = ended_none

module _ {P S : Type 0} (m : Machine P S) (p : P) (block : Written) (made : Moved) where
  pub at_free : (q : ℕ) → ended (written_at m p block made q) ≡ false
  at_free q = ended_block (nat_lt q (m.outputs p)) (written_signals block made (m.kind_out p q)) (written_free block made (m.kind_out p q))

  pub at_none : (q : ℕ) → m.outputs p ≤ q → written_at m p block made q ≡ no_messages
  at_none q over = let none : nat_lt q (m.outputs p) ≡ false = grind (arith, nat_tests, over) in ap (λ b. cond b (written_signals block made (m.kind_out p q)) no_messages) none

  pub at_some : (q : ℕ) → q < m.outputs p → written_at m p block made q ≡ written_signals block made (m.kind_out p q)
  at_some q there = let some : nat_lt q (m.outputs p) ≡ true = grind (arith, nat_tests, there) in ap (λ b. cond b (written_signals block made (m.kind_out p q)) no_messages) some

-- nothing was taken, and nothing was put
pub took_nothing : (v : View) (e : ℕ) → TakenAll v e [] v
took_nothing v e = record {
  ends = same_ends_refl v;
  received = sym (append-nil (v.received e));
  others = λ k ne. refl;
  sent = λ k. refl;
  room = λ k ne. refl;
  room_here = omega arith;
  coming = λ k ne. refl;
  coming_here = prefix_same (v.coming e) (v.coming e) refl;
}

module _ (outputs : List ℕ) (ms : ℕ → List Signal) where
  -- nothing is put yet
  pub put_on_none : (v : View) → PutOnEach outputs 0 ms v v
  put_on_none v = record {
    ends = same_ends_refl v;
    sent = λ e. after_none (v.sent e);
    received = λ e. refl;
    coming = λ e. prefix_same (v.coming e) (v.coming e) refl;
    room = λ e none. omega arith;
    room_next = λ q le lt. omega arith;
  }

  -- it is put on one output more
  pub put_on_more : AreApart outputs → (free : (q : ℕ) → ended (ms q) ≡ false) → (q : ℕ) → q < length outputs → (a u w : View) →
      PutOnEach outputs q ms a u → PutAll u (edge_of outputs q) (ms q) w → PutOnEach outputs (q + 1) ms a w
  put_on_more apart free q there a u w made put =
      let f = edge_of outputs q in
      let next : suc q ≡ q + 1 = omega arith in
      let so_far : Shifted [] outputs (λ e. []) (from_each (edge_of outputs) q ms) a u = record {
        ends = made.ends;
        received = λ e. made.received e ∙ sym (append-nil (a.received e));
        sent = made.sent;
        no_end = λ e. from_free (edge_of outputs) q e ms free;
        coming = λ e none. made.coming e;
        room = made.room;
      } in
      let shifted = shifted_put [] outputs so_far q (ms q) w there (free q) put in
      let behind : (k : ℕ) → q < k → k < length outputs → edge_of outputs k ≢ f = λ k lt le e. apart q k lt le (sym e) in
      subst (λ n. PutOnEach outputs n ms a w) next (record {
        ends = shifted.ends;
        sent = shifted.sent;
        received = λ e. put.received e ∙ made.received e;
        coming = λ e. elim (cases_eq e f) [
          | inl at ↦ prefix_then (a.coming e) (u.coming e) (w.coming e) (made.coming e) (subst (λ k. IsPrefix (u.coming k) (w.coming k)) (sym at) put.coming_here)
          | inr ne ↦ prefix_then (a.coming e) (u.coming e) (w.coming e) (made.coming e) (prefix_same (u.coming e) (w.coming e) (put.coming e ne))
        ];
        room = shifted.room;
        room_next = λ k le lt. let later : q < k = omega (arith, le) in omega (arith, made.room_next k (omega (arith, later)) lt, put.room (edge_of outputs k) (behind k later lt));
      })

-- where nothing is taken of an edge, what is certain there stays
kept_coming : (v w : View) (f e : ℕ) (ms : List Signal) → TakenAll v f ms w → (e ≡ f → ms ≡ []) → IsPrefix (v.coming e) (w.coming e)
kept_coming v w f e ms taken none = elim (cases_eq e f) [
  | inl at ↦ subst (λ k. IsPrefix (v.coming k) (w.coming k)) (sym at) (subst (λ l. IsPrefix (v.coming f) (l ++ w.coming f)) (none at) taken.coming_here)
  | inr ne ↦ prefix_same (v.coming e) (w.coming e) (taken.coming e ne)
]

-- What was shown is taken, and what was written is put: these are steps.
module _ {P S : Type 0} (m : Machine P S) {old new : P × S} {n : ℕ} (block : Written) (made : Moved) where
  pub along_went : (inputs outputs : List ℕ) (at : ℕ) (xs ys : List Signal) → RunsAlong m old new xs ys (written_at m old.0 block made) n →
      AreApart inputs → AreApart outputs → length outputs ≡ m.outputs old.0 →
      (length inputs ≤ 0 → xs ≡ []) → (length inputs ≤ 1 → ys ≡ []) → 0 < n → (v v1 v2 w : View) →
      TakenAll v (edge_of inputs 0) xs v1 → TakenAll v1 (edge_of inputs 1) ys v2 → PutOnEach outputs (length outputs) (λ q. written_signals block made (m.kind_out old.0 q)) v2 w →
      Went inputs outputs (behaviour_of m) (node_state old Working at) v (node_state new Working at) w n
  along_went inputs outputs at xs ys ran inputs_apart outputs_apart counts no_first no_second some v v1 v2 w first second put =
      let b = behaviour_of m in
      let f = edge_of inputs 0 in
      let g = edge_of inputs 1 in
      let outs = edge_of outputs in
      let written = written_at m old.0 block made in
      let each = λ (q : ℕ). written_signals block made (m.kind_out old.0 q) in
      let batch = along_batch m ran inputs outputs inputs_apart outputs_apart no_first no_second
      (λ q over. at_none m old.0 block made q (subst (λ k. k ≤ q) counts over)) (at_free m old.0 block made) at in
      let shifted : Shifted inputs outputs (λ e. cond (eqb e f) xs [] ++ cond (eqb e g) ys []) (from_each outs (length outputs) written) v w = record {
        ends = same_ends_then v v2 w (same_ends_then v v1 v2 first.ends second.ends) put.ends;
        received = λ e. put.received e ∙ taken_all_received v1 v2 g e ys second
            ∙ ap (λ l. l ++ cond (eqb e g) ys []) (taken_all_received v v1 f e xs first)
            ∙ append_assoc (v.received e) (cond (eqb e f) xs []) (cond (eqb e g) ys []);
        sent = λ e. put.sent e ∙ ap (λ l. cond (ended l) l (l ++ from_each outs (length outputs) each e)) (second.sent e ∙ first.sent e)
            ∙ ap (λ k. cond (ended (v.sent e)) (v.sent e) (v.sent e ++ k))
            (from_same outs (length outputs) e each written (λ q lt. sym (at_some m old.0 block made q (subst (λ k. q < k) counts lt))));
        no_end = λ e. from_free outs (length outputs) e written (at_free m old.0 block made);
        coming = λ e none. prefix_then (v.coming e) (v1.coming e) (w.coming e)
            (kept_coming v v1 f e xs first (λ here. elim (cases_lt 0 (length inputs)) [
              | inl there ↦ absurd (not_at inputs e 0 none there here)
              | inr over ↦ no_first over
            ]))
            (prefix_then (v1.coming e) (v2.coming e) (w.coming e)
            (kept_coming v1 v2 g e ys second (λ here. elim (cases_lt 1 (length inputs)) [
              | inl there ↦ absurd (not_at inputs e 1 none there here)
              | inr over ↦ no_second over
            ]))
            (put.coming e));
        room = λ e none. omega (arith, taken_all_room v v1 f e xs first, taken_all_room v1 v2 g e ys second, put.room e none);
      } in
      batch_went inputs outputs b batch shifted some

-- the worker keeps its parameters
pub same_parameters : {P S : Type 0} (m : Machine P S) (laws : BehaviourLaws (behaviour_of m)) (old new : P × S) (h : List (Event Signal)) (at : ℕ) →
    Does (behaviour_of m).process (node_state old Working at) h (node_state new Working at) → new.0 ≡ old.0
same_parameters m laws old new h at does = ap (λ o. o.worker.0) (opening_does (behaviour_of m) laws h (node_state old Working at) (node_state new Working at) does)

-- a worker that made no step is where it was
no_steps : {P S : Type 0} (m : Machine P S) (old new : P × S) (h : List (Event Signal)) (at : ℕ) → length h ≡ 0 →
    Does (behaviour_of m).process (node_state old Working at) h (node_state new Working at) → old ≡ new
no_steps m old new [] at none does = ap (λ n. n.worker) does
no_steps m old new (x ∷ h) at none does = absurd (omega (arith, none))

pub along_still : {P S : Type 0} (m : Machine P S) {old new : P × S} {xs ys : List Signal} {ws : ℕ → List Signal} {n : ℕ} → RunsAlong m old new xs ys ws n → n ≡ 0 → old ≡ new
along_still m {old} {new} ran none = no_steps m old new ran.history 0 (ran.counts ∙ none) (ran.does 0)

pub take_nothing : {A : Type 0} (k : ℕ) (xs : List A) → xs ≡ [] → take k xs ≡ []
take_nothing zero xs is = refl
take_nothing (suc k) xs is = ap (take (suc k)) is

pub prefix_long : (ms c : List Signal) → IsPrefix ms c → length ms ≤ length c
prefix_long ms c (more, is) = omega (arith, length-append ms more, ap length is)

-- the same ends are there
pub reads_still : {a v : View} (edges : List ℕ) → SameEnds a v → All (λ e. a.reads e ≡ true) edges → All (λ e. v.reads e ≡ true) edges
reads_still {a = a} {v = v} edges same all = All-weaker (λ e. a.reads e ≡ true) (λ e. v.reads e ≡ true) (λ e is. same.reads e ∙ is) edges all

pub writes_still : {a v : View} (edges : List ℕ) → SameEnds a v → All (λ e. a.writes e ≡ true) edges → All (λ e. v.writes e ≡ true) edges
writes_still {a = a} {v = v} edges same all = All-weaker (λ e. a.writes e ≡ true) (λ e. v.writes e ≡ true) (λ e is. same.writes e ∙ is) edges all

pub kinds_still : (a v : View) (outputs : List ℕ) (kind_out : ℕ → Kind) → SameEnds a v → TakeKinds outputs kind_out a → TakeKinds outputs kind_out v
kinds_still a v outputs kind_out same all = λ q there. takes_still a v (edge_of outputs q) (kind_out q) same (all q there)

-- what a second take takes, where the first was of another edge or this one takes nothing
module _ (inputs : List ℕ) (apart : AreApart inputs) (v v1 : View) (k : ℕ) (xs ms : List Signal) (first : TakenAll v (edge_of inputs 0) xs v1)
    (seen : IsPrefix ms (v.coming (edge_of inputs 1))) (within : k ≤ length ms) (none : length inputs ≤ 1 → ms ≡ []) where
  pub second_taken : take k (v1.coming (edge_of inputs 1)) ≡ take k ms
  second_taken = elim (cases_lt 1 (length inputs)) [
    | inl there ↦ ap (take k) (first.coming (edge_of inputs 1) (λ e. apart 0 1 (omega arith) there (sym e))) ∙ shown ms (v.coming (edge_of inputs 1)) k seen within
    | inr over ↦ (let zero_of : k ≡ 0 = omega (arith, within, ap length (none over)) in ap (λ j. take j (v1.coming (edge_of inputs 1))) zero_of ∙ sym (ap (λ j. take j ms) zero_of))
  ]

  pub second_certain : k ≤ length (v1.coming (edge_of inputs 1))
  second_certain = elim (cases_lt 1 (length inputs)) [
    | inl there ↦ omega (arith, within, prefix_long ms (v.coming (edge_of inputs 1)) seen, ap length (first.coming (edge_of inputs 1) (λ e. apart 0 1 (omega arith) there (sym e))))
    | inr over ↦ omega (arith, within, ap length (none over))
  ]

-- what is read was shown at a port that is there
pub port_there : (inputs : List ℕ) (p k : ℕ) (ms : List Signal) → k ≤ length ms → (length inputs ≤ p → ms ≡ []) → 0 < k → p < length inputs
port_there inputs p k ms within none some = elim (cases_lt p (length inputs)) [
  | inl there ↦ there
  | inr over ↦ absurd (omega (arith, within, some, ap length (none over)))
]

-- edges that rise are apart
pub risen_apart : (edges : List ℕ) → ((p q : ℕ) → p < q → q < length edges → edge_of edges p < edge_of edges q) → AreApart edges
risen_apart edges rises = λ p q lt there same. omega (arith, same, rises p q lt there)
