-- A sink keeps to the laws of machines.
use Rattle.std.specs.Prelude.{◌≡◌, zero, suc, true, List, [], ◌∷◌, Ok, refl}
use Rattle.std.proofs.Common.{arith}
use Rattle.flow_messages.specs.Cells.{Cell, is_of}
use Rattle.flow_messages.specs.declared.message.Kind.{Kind}
use Rattle.flow_base.specs.Ranges.{AllOf}
use Rattle.flow_base.specs.Columns.{Columns, columns, push_column}
use Rattle.flow_base.specs.Machines.{MachineLaws, SoundAt, Run, Runs}
use Rattle.flow_base.specs.MachineRuns.{Then, reading, writing, run_is, leads_on, led_on}
use Rattle.flow_scalar.specs.SinkMachine.{sink_move, sink_machine}

sound : (kind : Kind) (s : Unit {0}) → SoundAt sink_machine kind s (sink_move kind s)
sound kind s = (refl, (omega arith, refl, λ _ _ _. tt, λ _ _ _ _ _ _. tt))

runs : (kind : Kind) (a : List Cell) → AllOf kind a → Runs sink_machine kind tt (a ∷ []) []
runs kind [] h = (zero, (refl, refl))
runs kind (x ∷ a) h = let g = runs kind a h.1 in (suc g.0, leads_on kind (λ _. Ok tt) x (λ s. Run sink_machine kind g.0 s (a ∷ []) []) h.0 g.1)

-- what a run reads and writes
data Owes (kind : Kind) : Unit {0} → Columns → Columns → Type 0 where
  start : (a : List Cell) → AllOf kind a → Owes kind tt (a ∷ []) []

begun : (kind : Kind) (x : Cell) (i o : Columns) → is_of kind x ≡ true → Owes kind tt i o → Owes kind tt (push_column 0 x i) o
begun kind x _ _ is (start a h) = start (x ∷ a) (is, h)

earlier : (kind : Kind) (s : Unit {0}) (x : Cell) (i o : Columns) → Then (λ next. Owes kind next i o) (sink_move kind s) x → Owes kind s (reading (sink_move kind s) x i) (writing (sink_move kind s) o)
earlier kind s x i o h = let g = led_on kind (λ _. Ok tt) x (λ next. Owes kind next i o) h in begun kind x i o g.0 g.1

row_of : {kind : Kind} {a : List Cell} → Owes kind tt (a ∷ []) [] → AllOf kind a
row_of (start a h) = h

pub sink_laws : MachineLaws sink_machine
sink_laws = record {
  sound = sound;
  begins_at_start = λ _. refl;
  starts_of_kind = λ _. tt;
  rows = λ kind i o. (
    runs kind (i 0),
    λ r. row_of (run_is sink_machine kind (Owes kind) (sound kind) (start [] tt) (earlier kind) tt (columns 1 i) (columns 0 o) r),
  );
}
