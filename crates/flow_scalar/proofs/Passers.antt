-- What follows from one item of a fork.
use Rattle.std.proofs.Common.{◌≡◌, ℕ, zero, suc, ◌+◌, ◌-◌, true, false, Some, Ok, refl, ap, arith}
use Rattle.flow_messages.specs.Cells.{Cell, unit, flag, int}
use Rattle.flow_messages.specs.Kinds.{fits}
use Rattle.flow_messages.specs.Signals.{carry, signal_of, is_stop}
use Rattle.flow_messages.specs.Flats.{message_of}
use Rattle.flow_messages.specs.declared.flat.Flat.{Flat}
use Rattle.flow_messages.specs.declared.flat.Flat.TheVariants.{Unit as UnitFlat, Bool as BoolFlat, Int as IntFlat, End as EndFlat}
use Rattle.flow_base.specs.Machines.{gives}
use Rattle.flow_base.specs.MachineRuns.{leads_on}
use Rattle.flow_base.specs.Following.{Fans, Follows, Writes}
use Rattle.flow_scalar.specs.ForkMachine.{ForkPorts, idle, holding, fork_machine}

-- the outputs that are left get the item
fans : (p : ForkPorts) (x : Cell) (left done : ℕ) → done + left ≡ p.others → Fans fork_machine p (carry x) done (suc left) (holding x left)
fans p x zero done e =
    let port : p.others - 0 ≡ done = omega (arith, e) in
    (idle, x, refl, ap (λ q. gives q x idle) port, refl)
fans p x (suc left) done e =
    let port : p.others - suc left ≡ done = omega (arith, e) in
    (holding x left, x, refl, ap (λ q. gives q x (holding x left)) port, fans p x left (suc done) (omega (arith, e)))

-- each output gets it
pub fork_follows : (p : ForkPorts) (x : Flat) → fits p.kind (signal_of (message_of x)) ≡ true → is_stop (signal_of (message_of x)) ≡ false → Follows fork_machine p (signal_of (message_of x)) (Some x)
fork_follows p UnitFlat fit item = leads_on p.kind (λ y. Ok (holding y p.others)) unit (Writes fork_machine p (Some UnitFlat)) fit (omega arith, fans p unit p.others 0 (omega arith))
fork_follows p (BoolFlat b) fit item = leads_on p.kind (λ y. Ok (holding y p.others)) (flag b) (Writes fork_machine p (Some (BoolFlat b))) fit (omega arith, fans p (flag b) p.others 0 (omega arith))
fork_follows p (IntFlat n) fit item = leads_on p.kind (λ y. Ok (holding y p.others)) (int n) (Writes fork_machine p (Some (IntFlat n))) fit (omega arith, fans p (int n) p.others 0 (omega arith))
fork_follows p EndFlat fit item = absurd (cc)
