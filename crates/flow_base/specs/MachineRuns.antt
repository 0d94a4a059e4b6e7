-- What holds of the runs of a machine, by induction over their steps.
use Rattle.std.specs.Prelude.{◌≡◌, ℕ, zero, suc, Bool, true, false, cond, Result, Ok, Err, refl}
use Rattle.std.proofs.Common.{sym, subst}
use Rattle.snesl_data.specs.declared.fault.FaultKind.{FaultKind}
use Rattle.snesl_data.specs.declared.fault.FaultKind.TheVariants.{Shape}
use Rattle.flow_messages.specs.Cells.{Cell, unit, is_of}
use Rattle.flow_messages.specs.declared.message.Kind.{Kind}
use Rattle.flow_base.specs.Columns.{Columns, nothing, push_column, pushed, At}
use Rattle.flow_base.specs.Machines.{Taking, on_kind, Move, begins, takes, gives, state_after_item, Machine, OnNext, RunOf, Run, Runs, SoundAt}

-- an item of the kind leads on, and no other does
pub leads_on : {S : Type 0} (kind : Kind) (next : Cell → Result S FaultKind) (x : Cell) (P : S → Type 0) → is_of kind x ≡ true → OnNext (next x) P → OnNext (state_after_item (on_kind kind next) x) P
leads_on kind next x P e h = subst (λ b. OnNext (cond b (next x) (Err Shape)) P) (sym e) h

pub led_on : {S : Type 0} (kind : Kind) (next : Cell → Result S FaultKind) (x : Cell) (P : S → Type 0) → OnNext (state_after_item (on_kind kind next) x) P → (is_of kind x ≡ true) × OnNext (next x) P
led_on kind next x P h = go (is_of kind x) refl h
  where
    go : (b : Bool) → is_of kind x ≡ b → OnNext (cond b (next x) (Err Shape)) P → (is_of kind x ≡ true) × OnNext (next x) P
    go true e h = (e, h)
    go false e h = absurd h

-- the columns with the item in front that the move reads, or writes
abbrev pub reading : {S : Type 0} → Move S → Cell → Columns → Columns
reading (begins t) x i = push_column 0 x i
reading (takes q t) x i = push_column q x i
reading (gives q c s) x i = i

abbrev pub writing : {S : Type 0} → Move S → Columns → Columns
writing (gives q c s) o = push_column q c o
writing _ o = o

-- where the move leads with this item, Q holds
abbrev pub Then : {S : Type 0} → (S → Type 0) → Move S → Cell → Type 0
Then Q (begins t) x = OnNext (state_after_item t x) Q
Then Q (takes q t) x = OnNext (state_after_item t x) Q
Then Q (gives q c s) x = Q s

module _ {P S : Type 0} (m : Machine P S) where
  module _ (p : P) (Q : S → Columns → Columns → Type 0) (s : S) (n q : ℕ) (o : Columns) (ih : (s : S) (i : Columns) → Run m p n s i o → Q s i o) where
    next : (l : Columns) (r : Result S FaultKind) → OnNext r (λ s. Run m p n s l o) → OnNext r (λ s. Q s l o)
    next l (Ok s) h = ih s l h
    next l (Err kind) h = h

    read_as : (t : Taking S) → ((x : Cell) (i o : Columns) → OnNext (state_after_item t x) (λ next. Q next i o) → Q s (push_column q x i) o) →
        (i : Columns) → At q i (λ x l. OnNext (state_after_item t x) (λ s. Run m p n s l o)) → Q s i o
    read_as t e i h = let g = pushed q i (λ x l. OnNext (state_after_item t x) (λ s. Run m p n s l o)) h in subst (λ l. Q s l o) (sym g.2) (e g.0 g.1 o (next g.1 (state_after_item t g.0) g.3))

  -- what holds where nothing is left, and then one step earlier, holds of each run
  module _ (p : P) (Q : S → Columns → Columns → Type 0) (sound : (s : S) → SoundAt m p s (m.move p s)) (none : Q m.start (nothing (m.inputs p)) (nothing (m.outputs p)))
      (earlier : (s : S) (x : Cell) (i o : Columns) → Then (λ next. Q next i o) (m.move p s) x → Q s (reading (m.move p s) x i) (writing (m.move p s) o)) where
    run_as : (n : ℕ) (s : S) (v : Move S) → SoundAt m p s v →
        ((x : Cell) (i o : Columns) → Then (λ next. Q next i o) v x → Q s (reading v x i) (writing v o)) → (i o : Columns) → RunOf m p n v i o → Q s i o
    run_as zero s (begins t) h e i o r = subst (λ k. Q k i o) (sym h.0) (subst (λ l. Q m.start l o) (sym r.0) (subst (λ l. Q m.start (nothing (m.inputs p)) l) (sym r.1) none))
    run_as (suc n) s (begins t) h e i o r = read_as p Q s n 0 o (λ s i. run_as n s (m.move p s) (sound s) (earlier s) i o) t e i r
    run_as (suc n) s (takes q t) h e i o r = read_as p Q s n q o (λ s i. run_as n s (m.move p s) (sound s) (earlier s) i o) t e i r
    run_as (suc n) s (gives q c next) h e i o r =
        let g = pushed q o (λ x l. (x ≡ c) × Run m p n next i l) r in
        subst (λ l. Q s i l) (sym g.2) (subst (λ x. Q s i (push_column q x g.1)) (sym g.3.0) (e unit i g.1 (run_as n next (m.move p next) (sound next) (earlier next) i g.1 g.3.1)))
    run_as zero s _ h e i o r = absurd r

    pub run_is : (s : S) (i o : Columns) → Runs m p s i o → Q s i o
    run_is s i o r = run_as r.0 s (m.move p s) (sound s) (earlier s) i o r.1
