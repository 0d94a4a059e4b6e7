-- What a machine writes for what it reads, computed; and that its row says no more and no less.
use Rattle.std.specs.Prelude.{◌≡◌, ℕ, zero, suc, ◌+◌, ◌<◌, ◌≤◌, List, [], ◌∷◌, length, Option, Some, None, Result, Ok, Err, refl, ◌↔◌}
use Rattle.std.proofs.Common.{sym, ◌∙◌, ap, subst, arith}
use Rattle.snesl_data.specs.declared.fault.FaultKind.{FaultKind}
use Rattle.flow_messages.specs.Cells.{Cell}
use Rattle.flow_base.specs.Lists.{Lists, First}
use Rattle.flow_base.specs.Ports.{each_port}
use Rattle.flow_base.specs.Columns.{Columns, columns, nothing, push_column, with_column, At}
use Rattle.flow_base.specs.Machines.{Taking, Move, begins, takes, gives, state_after_item, Machine, MachineLaws, ask_of, OnNext, RunOf, Runs, SoundAt}
use Rattle.flow_base.specs.MachineRuns.{reading, writing, Then, run_is}
use Rattle.flow_base.specs.declared.worker.Ask.TheVariants.{Begin}

-- the number of items
abbrev pub item_count : Columns → ℕ
item_count [] = 0
item_count (l ∷ cs) = length l + item_count cs

-- what the first item leads to, and the others
abbrev pub on_item : List Cell → (Cell → List Cell → Option Columns) → Option Columns
on_item [] g = None
on_item (x ∷ l) g = g x l

-- what the next state leads to, where there is one
abbrev pub on_next : {S : Type 0} → Result S FaultKind → (S → Option Columns) → Option Columns
on_next (Ok s) g = g s
on_next (Err kind) g = None

-- an item in front of the column of port q, where there are columns
abbrev pub written : ℕ → Cell → Option Columns → Option Columns
written q c None = None
written q c (Some o) = Some (push_column q c o)

module _ {P S : Type 0} (m : Machine P S) (p : P) where
  -- the writes that come first, of which there are at most so many, and then what is read
  abbrev pub after_writes : (Move S → Columns → Option Columns) → Move S → ℕ → Columns → Option Columns
  after_writes read (gives q c s) (suc bound) i = written q c (after_writes read (m.move p s) bound i)
  after_writes read (gives q c s) zero i = None
  after_writes read (begins t) bound i = read (begins t) i
  after_writes read (takes q t) bound i = read (takes q t) i

  -- what is written where n items are left, and the next is read or there is none
  abbrev pub rest_written : ℕ → Move S → Columns → Option Columns
  rest_written (suc n) (begins t) i = on_item (each_port i 0) (λ x l. on_next (state_after_item t x) (λ s. after_writes (rest_written n) (m.move p s) (m.debt p s) (with_column 0 l i)))
  rest_written (suc n) (takes q t) i = on_item (each_port i q) (λ x l. on_next (state_after_item t x) (λ s. after_writes (rest_written n) (m.move p s) (m.debt p s) (with_column q l i)))
  rest_written zero (begins t) i = Some (nothing (m.outputs p))
  rest_written _ _ i = None

  -- what whole instances write that read these columns, where there are any
  abbrev pub computed : Columns → Option Columns
  computed i = after_writes (rest_written (item_count i)) (m.move p m.start) (m.debt p m.start) i

  -- the row is what is computed
  abbrev pub ComputesRow : Type 0
  ComputesRow = (i o : Lists Cell) → m.row p i o ↔ (computed (columns (m.inputs p) i) ≡ Some (columns (m.outputs p) o))

-- columns: how many there are, and how many items
abbrev width : Columns → ℕ
width cs = length cs

width_columns : (n : ℕ) (i : Lists Cell) → width (columns n i) ≡ n
width_columns zero i = refl
width_columns (suc n) i = ap suc (width_columns n (λ p. i (suc p)))

width_nothing : (n : ℕ) → width (nothing n) ≡ n
width_nothing zero = refl
width_nothing (suc n) = ap suc (width_nothing n)

width_push : (q : ℕ) (x : Cell) (cs : Columns) → width (push_column q x cs) ≡ width cs
width_push q x [] = refl
width_push zero x (l ∷ cs) = refl
width_push (suc q) x (l ∷ cs) = ap suc (width_push q x cs)

width_with : (q : ℕ) (r : List Cell) (cs : Columns) → width (with_column q r cs) ≡ width cs
width_with q r [] = refl
width_with zero r (l ∷ cs) = refl
width_with (suc q) r (l ∷ cs) = ap suc (width_with q r cs)

items_nothing : (n : ℕ) → item_count (nothing n) ≡ 0
items_nothing zero = refl
items_nothing (suc n) = let there = items_nothing n in omega arith

no_items : (cs : Columns) → item_count cs ≡ 0 → cs ≡ nothing (width cs)
no_items [] e = refl
no_items ([] ∷ cs) e = ap (λ r. [] ∷ r) (no_items cs (omega arith))
no_items ((x ∷ l) ∷ cs) e = absurd (omega arith)

items_push : (q : ℕ) (x : Cell) (cs : Columns) → q < width cs → item_count (push_column q x cs) ≡ suc (item_count cs)
items_push q x [] lt = absurd (omega arith)
items_push zero x (l ∷ cs) lt = omega arith
items_push (suc q) x (l ∷ cs) lt = let there = items_push q x cs (omega arith) in omega arith

items_less : (q : ℕ) (x : Cell) (r : List Cell) (cs : Columns) → each_port cs q ≡ x ∷ r → item_count cs ≡ suc (item_count (with_column q r cs))
items_less q x r [] e = absurd (cc)
items_less zero x r (l ∷ cs) e = ap (λ k. length k + item_count cs) e ∙ omega arith
items_less (suc q) x r (l ∷ cs) e = let there = items_less q x r cs e in omega arith

-- the item that was put in front comes first, and the others are what was there
port_push : (q : ℕ) (x : Cell) (cs : Columns) → q < width cs → each_port (push_column q x cs) q ≡ x ∷ each_port cs q
port_push q x [] lt = absurd (omega arith)
port_push zero x (l ∷ cs) lt = refl
port_push (suc q) x (l ∷ cs) lt = port_push q x cs (omega arith)

taken_away : (q : ℕ) (x : Cell) (cs : Columns) → with_column q (each_port cs q) (push_column q x cs) ≡ cs
taken_away q x [] = refl
taken_away zero x (l ∷ cs) = refl
taken_away (suc q) x (l ∷ cs) = ap (λ r. l ∷ r) (taken_away q x cs)

at_push : (q : ℕ) (x : Cell) (cs : Columns) (P : Cell → Columns → Type 0) → q < width cs → P x cs → At q (push_column q x cs) P
at_push q x [] P lt h = absurd (omega arith)
at_push zero x (l ∷ cs) P lt h = h
at_push (suc q) x (l ∷ cs) P lt h = at_push q x cs (λ x r. P x (l ∷ r)) (omega arith) h

written_some : (q : ℕ) (c : Cell) (r : Option Columns) (o : Columns) → written q c r ≡ Some o → (rest : Columns) × (r ≡ Some rest) × (o ≡ push_column q c rest)
written_some q c None o e = absurd (cc)
written_some q c (Some rest) o e = let same : o ≡ push_column q c rest = cc in (rest, refl, same)

module _ {P S : Type 0} (m : Machine P S) (laws : MachineLaws m) (p : P) where
  abbrev From : ℕ → S → ℕ → Columns → Option Columns
  From n s bound i = after_writes m p (rest_written m p n) (m.move p s) bound i

  -- what a run writes is what is computed
  abbrev Computes : S → Columns → Columns → Type 0
  Computes s i o = width i ≡ m.inputs p → width o ≡ m.outputs p → (bound : ℕ) → m.debt p s ≤ bound → From (item_count i) s bound i ≡ Some o

  read_computes : (q : ℕ) (t : Taking S) (x : Cell) (i o : Columns) → q < width i → width i ≡ m.inputs p → width o ≡ m.outputs p → OnNext (state_after_item t x) (λ next. Computes next i o) →
      on_item (each_port (push_column q x i) q) (λ y l. on_next (state_after_item t y) (λ s. From (item_count i) s (m.debt p s) (with_column q l (push_column q x i)))) ≡ Some o
  read_computes q t x i o lt wi wo h =
      ap (λ l. on_item l (λ y l. on_next (state_after_item t y) (λ s. From (item_count i) s (m.debt p s) (with_column q l (push_column q x i))))) (port_push q x i lt)
      ∙ ap (λ c. on_next (state_after_item t x) (λ s. From (item_count i) s (m.debt p s) c)) (taken_away q x i)
      ∙ next (state_after_item t x) h
    where
      next : (r : Result S FaultKind) → OnNext r (λ next. Computes next i o) → on_next r (λ s. From (item_count i) s (m.debt p s) i) ≡ Some o
      next (Ok s) h = h wi wo (m.debt p s) (omega arith)
      next (Err kind) h = absurd h

  step_computes : (s : S) (v : Move S) → SoundAt m p s v → (x : Cell) (i o : Columns) → Then (λ next. Computes next i o) v x → width (reading v x i) ≡ m.inputs p → width (writing v o) ≡ m.outputs p →
      (bound : ℕ) → m.debt p s ≤ bound → after_writes m p (rest_written m p (item_count (reading v x i))) v bound (reading v x i) ≡ Some (writing v o)
  step_computes s (begins t) law x i o h wi wo bound le =
      let w : width i ≡ m.inputs p = sym (width_push 0 x i) ∙ wi in
      let lt : 0 < width i = subst (λ n. 0 < n) (sym w) law.1.0 in
      ap (λ n. rest_written m p n (begins t) (push_column 0 x i)) (items_push 0 x i lt) ∙ read_computes 0 t x i o lt w wo h
  step_computes s (takes q t) law x i o h wi wo bound le =
      let w : width i ≡ m.inputs p = sym (width_push q x i) ∙ wi in
      let lt : q < width i = subst (λ n. q < n) (sym w) law.0 in
      ap (λ n. rest_written m p n (takes q t) (push_column q x i)) (items_push q x i lt) ∙ read_computes q t x i o lt w wo h
  step_computes s (gives q c next) law x i o h wi wo zero le = let falls = law.1 in absurd (omega arith)
  step_computes s (gives q c next) law x i o h wi wo (suc bound) le = let falls = law.1 in ap (written q c) (h wi (sym (width_push q c o) ∙ wo) bound (omega arith))

  none_computes : Computes m.start (nothing (m.inputs p)) (nothing (m.outputs p))
  none_computes wi wo bound le = go (m.move p m.start) (laws.begins_at_start p)
    where
      go : (v : Move S) → ask_of v ≡ Begin → after_writes m p (rest_written m p (item_count (nothing (m.inputs p)))) v bound (nothing (m.inputs p)) ≡ Some (nothing (m.outputs p))
      go (begins t) e = ap (λ n. rest_written m p n (begins t) (nothing (m.inputs p))) (items_nothing (m.inputs p))
      go (takes q t) e = absurd (cc)
      go (gives q c s) e = absurd (cc)

  run_computes : (s : S) (i o : Columns) → Runs m p s i o → Computes s i o
  run_computes = run_is m p Computes (laws.sound p) none_computes (λ s x i o h. step_computes s (m.move p s) (laws.sound p s) x i o h)

  -- what is computed is what a run writes
  abbrev IsOfRun : Move S → Columns → Columns → Type 0
  IsOfRun v i o = (width o ≡ m.outputs p) × ((n : ℕ) × RunOf m p n v i o)

  abbrev AnswersRun : ℕ → Type 0
  AnswersRun n = (s : S) (v : Move S) → SoundAt m p s v → (i o : Columns) → item_count i ≡ n → width i ≡ m.inputs p → rest_written m p n v i ≡ Some o → IsOfRun v i o

  writes_run : (n : ℕ) → AnswersRun n → (bound : ℕ) (s : S) (v : Move S) → SoundAt m p s v → (i o : Columns) → item_count i ≡ n → width i ≡ m.inputs p
      → after_writes m p (rest_written m p n) v bound i ≡ Some o → IsOfRun v i o
  writes_run n reads bound s (begins t) law i o e w h = reads s (begins t) law i o e w h
  writes_run n reads bound s (takes q t) law i o e w h = reads s (takes q t) law i o e w h
  writes_run n reads zero s (gives q c next) law i o e w h = absurd (cc)
  writes_run n reads (suc bound) s (gives q c next) law i o e w h =
      let g = written_some q c (From n next bound i) o h in
      let there = writes_run n reads bound next (m.move p next) (laws.sound p next) i g.0 e w g.1 in
      let lt : q < width g.0 = subst (λ k. q < k) (sym there.0) law.0 in (
        ap width g.2 ∙ width_push q c g.0 ∙ there.0,
        (
          suc there.1.0,
          subst (λ r. At q r (λ x r. (x ≡ c) × RunOf m p there.1.0 (m.move p next) i r)) (sym g.2)
              (at_push q c g.0 (λ x r. (x ≡ c) × RunOf m p there.1.0 (m.move p next) i r) lt (refl, there.1.1)),
        ),
      )

  read_run : (n q : ℕ) (t : Taking S) (i o : Columns) → AnswersRun n → item_count i ≡ suc n → width i ≡ m.inputs p →
      on_item (each_port i q) (λ x l. on_next (state_after_item t x) (λ s. From n s (m.debt p s) (with_column q l i))) ≡ Some o →
      (width o ≡ m.outputs p) × ((k : ℕ) × At q i (λ x r. OnNext (state_after_item t x) (λ s. RunOf m p k (m.move p s) r o)))
  read_run n q t i o reads e w h = go (each_port i q) refl h
    where
      next : (r : Result S FaultKind) (c : Columns) → item_count c ≡ n → width c ≡ m.inputs p → on_next r (λ s. From n s (m.debt p s) c) ≡ Some o →
          (width o ≡ m.outputs p) × ((k : ℕ) × OnNext r (λ s. RunOf m p k (m.move p s) c o))
      next (Ok s) c e w h = writes_run n reads (m.debt p s) s (m.move p s) (laws.sound p s) c o e w h
      next (Err kind) c e w h = absurd (cc)

      go : (l : List Cell) → each_port i q ≡ l → on_item l (λ x l. on_next (state_after_item t x) (λ s. From n s (m.debt p s) (with_column q l i))) ≡ Some o →
          (width o ≡ m.outputs p) × ((k : ℕ) × First l (λ x r. OnNext (state_after_item t x) (λ s. RunOf m p k (m.move p s) (with_column q r i) o)))
      go [] is h = absurd (cc)
      go (x ∷ l) is h = let less = items_less q x l i is in next (state_after_item t x) (with_column q l i) (omega arith) (width_with q l i ∙ w) h

  answers_run : (n : ℕ) → AnswersRun n
  answers_run zero s (begins t) law i o e w h =
      let same : nothing (m.outputs p) ≡ o = cc in
      (ap width (sym same) ∙ width_nothing (m.outputs p), (zero, (no_items i e ∙ ap nothing w, sym same)))
  answers_run (suc n) s (begins t) law i o e w h = let g = read_run n 0 t i o (answers_run n) e w h in (g.0, (suc g.1.0, g.1.1))
  answers_run (suc n) s (takes q t) law i o e w h = let g = read_run n q t i o (answers_run n) e w h in (g.0, (suc g.1.0, g.1.1))
  answers_run zero s _ law i o e w h = absurd (cc)
  answers_run (suc n) s (gives q c next) law i o e w h = absurd (cc)

  -- the row holds of these lists exactly where what is computed of the first is the second
  pub computes_row : ComputesRow m p
  computes_row i o =
      let ins = columns (m.inputs p) i in
      let outs = columns (m.outputs p) o in (
        λ row. run_computes m.start ins outs ((laws.rows p i o).0 row) (width_columns (m.inputs p) i) (width_columns (m.outputs p) o) (m.debt p m.start) (omega arith),
        λ e. (laws.rows p i o).1
            (writes_run (item_count ins) (answers_run (item_count ins)) (m.debt p m.start) m.start (m.move p m.start) (laws.sound p m.start) ins outs
            refl (width_columns (m.inputs p) i) e).1,
      )
