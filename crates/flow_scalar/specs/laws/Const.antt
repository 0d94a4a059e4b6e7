-- A constant keeps to the laws of machines.
use Rattle.std.specs.Prelude.{◌≡◌, ℕ, zero, suc, Bool, true, false, refl}
use Rattle.std.proofs.Common.{arith}
use Rattle.snesl_data.specs.operators.Operators.{type_of}
use Rattle.snesl_data.specs.declared.operators.scalar.Scalar.{Scalar}
use Rattle.flow_messages.specs.Cells.{Cell, unit}
use Rattle.flow_base.specs.Columns.{Columns, push_column, rows_from}
use Rattle.flow_base.specs.Machines.{MachineLaws, SoundAt, Runs}
use Rattle.flow_base.specs.MachineRuns.{Then, reading, writing, run_is}
use Rattle.flow_scalar.specs.Rows.{const_reads, const_writes}
use Rattle.flow_folds.specs.Scalars.{cell_of_scalar}
use Rattle.flow_folds.specs.ScalarCells.{is_of-cell, cell_in_range}
use Rattle.flow_scalar.specs.ConstMachine.{const_move, const_machine}

sound : (k : Scalar) (due : Bool) → SoundAt const_machine k due (const_move k due)
sound k false = (refl, (omega arith, refl, λ _ _ _. tt, λ _ _ h _ _ _. h))
sound k true = (omega arith, omega arith, λ _. (is_of-cell k (type_of k) refl, tt), λ dialect _ h. (cell_in_range dialect k h, h))

runs : (k : Scalar) (n : ℕ) → Runs const_machine k false (const_reads n) (const_writes k n)
runs k zero = (zero, (refl, refl))
runs k (suc n) = let g = runs k n in (suc (suc g.0), (refl, g.1))

-- what a run reads and writes
data Owes (k : Scalar) : Bool → Columns → Columns → Type 0 where
  start : (n : ℕ) → Owes k false (const_reads n) (const_writes k n)
  due : {i o : Columns} → Owes k false i o → Owes k true i (push_column 0 (cell_of_scalar k) o)

earlier : (k : Scalar) (s : Bool) (x : Cell) (i o : Columns) → Then (λ next. Owes k next i o) (const_move k s) x → Owes k s (reading (const_move k s) x i) (writing (const_move k s) o)
earlier k false unit _ _ (due (start n)) = start (suc n)
earlier k true _ _ _ o = due o
earlier k _ _ _ _ h = absurd h

whole : {k : Scalar} {i o : Columns} → Owes k false i o → (n : ℕ) × (i ≡ const_reads n) × (o ≡ const_writes k n)
whole (start n) = (n, refl, refl)

pub const_laws : MachineLaws const_machine
const_laws = record {
  sound = sound;
  begins_at_start = λ _. refl;
  starts_of_kind = λ _. tt;
  rows = λ k i o. rows_from const_reads (const_writes k) (Runs const_machine k false) (runs k)
      (λ i o r. whole (run_is const_machine k (Owes k) (sound k) (start zero) (earlier k) false i o r)) 1 1 i o;
}
