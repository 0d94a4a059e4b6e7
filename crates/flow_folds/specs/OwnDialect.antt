-- Workers that compute in a dialect of their own.
use Rattle.std.specs.Prelude.{◌≡◌, Result, Ok, Err, refl}
use Rattle.std.proofs.Common.{subst}
use Rattle.snesl_data.specs.declared.dialect.Dialect.{Dialect}
use Rattle.snesl_data.specs.declared.fault.FaultKind.{FaultKind}
use Rattle.flow_messages.specs.Cells.{Cell}
use Rattle.flow_base.specs.Ranges.{CellInRange}
use Rattle.flow_base.specs.Machines.{Taking, on_flag, on_int, on_kind, OfNext, OfRange}

-- a worker that computes in its own dialect computes in this one, in whose range the state is
abbrev pub InOwn : {S : Type 0} → (Dialect → S → Type 0) → Dialect → Dialect → S → Type 0
InOwn InRange own dialect s = (own ≡ dialect) × InRange dialect s

module _ {S : Type 0} (InRange : Dialect → S → Type 0) (own : Dialect) where
  next_in_own : (r : Result S FaultKind) → OfNext r (InRange own) → OfNext r (InOwn InRange own own)
  next_in_own (Ok s) h = (refl, h)
  next_in_own (Err kind) h = tt

  taken_in_own : (t : Taking S) → OfRange own (InRange own) t → OfRange own (InOwn InRange own own) t
  taken_in_own (on_flag at_f at_t) h = (next_in_own at_f h.0, next_in_own at_t h.1)
  taken_in_own (on_int next) h = λ n range. next_in_own (next n) (h n range)
  taken_in_own (on_kind kind next) h = λ x is range. next_in_own (next x) (h x is range)

  -- what a read keeps to in the worker's own dialect, it keeps to in each that is its own; K is what else is known
  pub own_read : {K : Type 0} (s : S) (t : Taking S) → (InRange own s → OfRange own (InRange own) t) → (dialect : Dialect) → K →
      InOwn InRange own dialect s → OfRange dialect (InOwn InRange own dialect) t
  own_read s t h dialect known held = subst (λ dialect. InRange dialect s → OfRange dialect (InOwn InRange own dialect) t) held.0 (λ range. taken_in_own t (h range)) held.1

  -- so too with a write
  pub own_write : {K : Type 0} (s next : S) (c : Cell) → (InRange own s → CellInRange own c × InRange own next) → (dialect : Dialect) → K →
      InOwn InRange own dialect s → CellInRange dialect c × InOwn InRange own dialect next
  own_write s next c h dialect known held =
      subst (λ dialect. InRange dialect s → CellInRange dialect c × InOwn InRange own dialect next) held.0
      (λ range. let there = h range in (there.0, (refl, there.1))) held.1
