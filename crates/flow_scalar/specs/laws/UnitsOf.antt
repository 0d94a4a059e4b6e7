-- The worker that writes a Unit for each element keeps to the laws of machines.
use Rattle.std.specs.Prelude.{◌≡◌, zero, suc, Bool, true, false, List, [], ◌∷◌, refl}
use Rattle.std.proofs.Common.{arith}
use Rattle.flow_messages.specs.Cells.{Cell, unit, flag}
use Rattle.flow_base.specs.Columns.{Columns, push_column, rows_from}
use Rattle.flow_base.specs.Machines.{MachineLaws, SoundAt, Runs}
use Rattle.flow_base.specs.MachineRuns.{Then, reading, writing, run_is}
use Rattle.flow_scalar.specs.Rows.{units_of_reads, units_of_writes}
use Rattle.flow_scalar.specs.UnitsOfMachine.{units_of_move, units_of_machine}

sound : (s : Bool) → SoundAt units_of_machine tt s (units_of_move s)
sound false = (refl, (omega arith, refl, λ _. (tt, tt), λ _ _ _. (tt, tt)))
sound true = (omega arith, omega arith, λ _. (refl, tt), λ _ _ _. (tt, tt))

runs : (bs : List Bool) → Runs units_of_machine tt false (units_of_reads bs) (units_of_writes bs)
runs [] = (zero, (refl, refl))
runs (false ∷ bs) = let g = runs bs in (suc (suc g.0), (refl, g.1))
runs (true ∷ bs) = let g = runs bs in (suc g.0, g.1)

-- what a run reads and writes
data Owes : Bool → Columns → Columns → Type 0 where
  start : (bs : List Bool) → Owes false (units_of_reads bs) (units_of_writes bs)
  due : {i o : Columns} → Owes false i o → Owes true i (push_column 0 unit o)

earlier : (s : Bool) (x : Cell) (i o : Columns) → Then (λ next. Owes next i o) (units_of_move s) x → Owes s (reading (units_of_move s) x i) (writing (units_of_move s) o)
earlier false (flag false) _ _ (due (start bs)) = start (false ∷ bs)
earlier false (flag true) _ _ (start bs) = start (true ∷ bs)
earlier true _ _ _ o = due o
earlier _ _ _ _ h = absurd h

whole : {i o : Columns} → Owes false i o → (bs : List Bool) × (i ≡ units_of_reads bs) × (o ≡ units_of_writes bs)
whole (start bs) = (bs, refl, refl)

pub units_of_laws : MachineLaws units_of_machine
units_of_laws = record {
  sound = λ _. sound;
  begins_at_start = λ _. refl;
  starts_of_kind = λ _. tt;
  rows = λ _ i o. rows_from units_of_reads units_of_writes (Runs units_of_machine tt false) runs (λ i o r. whole (run_is units_of_machine tt Owes sound (start []) earlier false i o r)) 1 1 i o;
}
