-- What is left to a machine, as a run: what a first item, and an item more, make of it.
use Rattle.std.specs.Prelude.{◌≡◌, ℕ, zero, suc, ◌<◌, [], ◌∷◌, Bool, true, false, cond, Result, Ok, Err, refl, ◌↔◌}
use Rattle.std.proofs.Common.{sym, ap, subst}
use Rattle.snesl_data.specs.declared.dialect.Dialect.{Dialect}
use Rattle.snesl_data.specs.declared.fault.FaultKind.{FaultKind}
use Rattle.snesl_data.specs.declared.fault.FaultKind.TheVariants.{Shape}
use Rattle.flow_messages.specs.Cells.{Cell, flag, int, is_of}
use Rattle.flow_base.specs.Lists.{Lists, push, with_port, First, First-full, HasFirst, NothingAt}
use Rattle.flow_base.specs.Ports.{at_port, take_away, nothing_at, first_of_list, First-from}
use Rattle.flow_base.specs.Ranges.{CellInRange}
use Rattle.flow_base.specs.Columns.{Columns, columns, At, at_first, first_at, all_read, nothing_read}
use Rattle.flow_base.specs.Machines.{Taking, on_flag, on_int, on_kind, Move, begins, takes, gives, state_after_item, kind_of_taking, Machine, OnNext, OfNext, OfKind, OfRange, RunOf}

-- an item of another kind is a fault
pub other_kind : {S : Type 0} (t : Taking S) (x : Cell) → is_of (kind_of_taking t) x ≡ false → state_after_item t x ≡ Err Shape
other_kind (on_flag at_f at_t) (flag b) e = absurd (cc)
other_kind (on_flag at_f at_t) _ e = refl
other_kind (on_int next) (int n) e = absurd (cc)
other_kind (on_int next) _ e = refl
other_kind (on_kind kind next) x e = ap (λ b. cond b (next x) (Err Shape)) e

module _ {S : Type 0} (P : S → Type 0) where
  -- where an item leads, what holds wherever one of the kind does
  pub of_kind_there : (t : Taking S) (x : Cell) → OfKind P t → OfNext (state_after_item t x) P
  of_kind_there (on_flag at_f at_t) (flag false) h = h.0
  of_kind_there (on_flag at_f at_t) (flag true) h = h.1
  of_kind_there (on_flag at_f at_t) _ h = tt
  of_kind_there (on_int next) (int n) h = h n
  of_kind_there (on_int next) _ h = tt
  of_kind_there (on_kind kind next) x h = go (is_of kind x) refl
    where
      go : (b : Bool) → is_of kind x ≡ b → OfNext (cond b (next x) (Err Shape)) P
      go true e = h x e
      go false e = tt

module _ {S : Type 0} (dialect : Dialect) (P : S → Type 0) where
  -- where an item leads whose integers lie in the range of the dialect, what holds wherever one of the kind does
  pub in_range_there : (t : Taking S) (x : Cell) → OfRange dialect P t → CellInRange dialect x → OfNext (state_after_item t x) P
  in_range_there (on_flag at_f at_t) (flag false) h range = h.0
  in_range_there (on_flag at_f at_t) (flag true) h range = h.1
  in_range_there (on_flag at_f at_t) _ h range = tt
  in_range_there (on_int next) (int n) h range = h n range
  in_range_there (on_int next) _ h range = tt
  in_range_there (on_kind kind next) x h range = go (is_of kind x) refl
    where
      go : (b : Bool) → is_of kind x ≡ b → OfNext (cond b (next x) (Err Shape)) P
      go true e = h x e range
      go false e = tt

module _ {P S : Type 0} (m : Machine P S) (p : P) where
  abbrev Ins : Lists Cell → Columns
  Ins i = columns (m.inputs p) i

  abbrev Outs : Lists Cell → Columns
  Outs o = columns (m.outputs p) o

  -- what is left in a state that makes this move
  abbrev pub Body : Move S → Lists Cell → Lists Cell → Type 0
  Body v i o = (n : ℕ) × RunOf m p n v (columns (m.inputs p) i) (columns (m.outputs p) o)

  abbrev pub BodyAfter : Result S FaultKind → Lists Cell → Lists Cell → Type 0
  BodyAfter r i o = OnNext r (λ s. Body (m.move p s) i o)

  -- an item in front of a port is the first that is read there
  front : (q : ℕ) (x : Cell) (i : Lists Cell) (R : Cell → Columns → Type 0) → q < m.inputs p → At q (Ins (push q x i)) R → R x (Ins i)
  front q x i R lt h =
      let g : First (x ∷ i q) (λ y r. R y (Ins (with_port q r (push q x i)))) =
      subst (λ l. First l (λ y r. R y (Ins (with_port q r (push q x i))))) (at_port q (x ∷ i q) i) (at_first (m.inputs p) q (push q x i) R lt h) in
      subst (λ j. R x (Ins j)) (take_away q x i) g

  in_front : (q : ℕ) (x : Cell) (i : Lists Cell) (R : Cell → Columns → Type 0) → q < m.inputs p → R x (Ins i) → At q (Ins (push q x i)) R
  in_front q x i R lt h =
      first_at (m.inputs p) q (push q x i) R lt
      (First-from (push q x i q) x (i q) (λ y r. R y (Ins (with_port q r (push q x i)))) (at_port q (x ∷ i q) i)
      (subst (λ j. R x (Ins j)) (sym (take_away q x i)) h))

  abbrev Next : ℕ → Taking S → Lists Cell → Cell → Columns → Type 0
  Next n t o x r = OnNext (state_after_item t x) (λ s. RunOf m p n (m.move p s) r (Outs o))

  on : (n : ℕ) (r : Result S FaultKind) (i o : Lists Cell) → OnNext r (λ s. RunOf m p n (m.move p s) (Ins i) (Outs o)) → BodyAfter r i o
  on n (Ok s) i o h = (n, h)
  on n (Err kind) i o h = h

  off : (r : Result S FaultKind) (i o : Lists Cell) → BodyAfter r i o → (n : ℕ) × OnNext r (λ s. RunOf m p n (m.move p s) (Ins i) (Outs o))
  off (Ok s) i o h = h
  off (Err kind) i o h = absurd h

  pub take_read : (q : ℕ) (t : Taking S) (x : Cell) (i o : Lists Cell) → q < m.inputs p → Body (takes q t) (push q x i) o ↔ BodyAfter (state_after_item t x) i o
  take_read q t x i o lt = (forth, λ h. let g = off (state_after_item t x) i o h in (suc g.0, in_front q x i (Next g.0 t o) lt g.1))
    where
      forth : Body (takes q t) (push q x i) o → BodyAfter (state_after_item t x) i o
      forth (zero, h) = absurd h
      forth (suc n, h) = on n (state_after_item t x) i o (front q x i (Next n t o) lt h)

  pub begin_read : (t : Taking S) (x : Cell) (i o : Lists Cell) → 0 < m.inputs p → Body (begins t) (push 0 x i) o ↔ BodyAfter (state_after_item t x) i o
  begin_read t x i o lt = (forth, λ h. let g = off (state_after_item t x) i o h in (suc g.0, in_front 0 x i (Next g.0 t o) lt g.1))
    where
      forth : Body (begins t) (push 0 x i) o → BodyAfter (state_after_item t x) i o
      forth (zero, h) = let none = nothing_at (m.inputs p) (push 0 x i) (all_read (m.inputs p) (push 0 x i) h.0) 0 lt in absurd (cc)
      forth (suc n, h) = on n (state_after_item t x) i o (front 0 x i (Next n t o) lt h)

  -- where the first input has no item, there is nothing left
  pub begin_stop : (t : Taking S) (i o : Lists Cell) → 0 < m.inputs p → i 0 ≡ [] → Body (begins t) i o → NothingAt (m.inputs p) i × NothingAt (m.outputs p) o
  begin_stop t i o lt e (zero, h) = (all_read (m.inputs p) i h.0, all_read (m.outputs p) o h.1)
  begin_stop t i o lt e (suc n, h) = absurd (subst (λ l. First l (λ x r. Next n t o x (Ins (with_port 0 r i)))) e (at_first (m.inputs p) 0 i (Next n t o) lt h))

  pub begin_none : (t : Taking S) (i o : Lists Cell) → NothingAt (m.inputs p) i → NothingAt (m.outputs p) o → Body (begins t) i o
  begin_none t i o no_ins no_outs = (zero, (nothing_read (m.inputs p) i no_ins, nothing_read (m.outputs p) o no_outs))

  -- within an instance there is a first item
  pub take_full : (q : ℕ) (t : Taking S) (i o : Lists Cell) → q < m.inputs p → Body (takes q t) i o → HasFirst (i q)
  take_full q t i o lt (zero, h) = absurd h
  take_full q t i o lt (suc n, h) = First-full (i q) (λ x r. Next n t o x (Ins (with_port q r i))) (at_first (m.inputs p) q i (Next n t o) lt h)

  abbrev Wrote : ℕ → S → Cell → Lists Cell → Cell → Columns → Type 0
  Wrote n s c i x r = (x ≡ c) × RunOf m p n (m.move p s) (Ins i) r

  pub give_write : (q : ℕ) (c : Cell) (s : S) (i o : Lists Cell) → q < m.outputs p → Body (gives q c s) i o ↔ First (o q) (λ x r. (x ≡ c) × Body (m.move p s) i (with_port q r o))
  give_write q c s i o lt = (
    forth,
    λ h.
        let g = first_of_list (o q) (λ x r. (x ≡ c) × Body (m.move p s) i (with_port q r o)) h in
        (suc g.3.1.0, first_at (m.outputs p) q o (Wrote g.3.1.0 s c i) lt (First-from (o q) g.0 g.1 (λ x r. Wrote g.3.1.0 s c i x (Outs (with_port q r o))) g.2 (g.3.0, g.3.1.1))),
  )
    where
      forth : Body (gives q c s) i o → First (o q) (λ x r. (x ≡ c) × Body (m.move p s) i (with_port q r o))
      forth (zero, h) = absurd h
      forth (suc n, h) =
          let g = first_of_list (o q) (λ x r. Wrote n s c i x (Outs (with_port q r o))) (at_first (m.outputs p) q o (Wrote n s c i) lt h) in
          First-from (o q) g.0 g.1 (λ x r. (x ≡ c) × Body (m.move p s) i (with_port q r o)) g.2 (g.3.0, (n, g.3.1))
