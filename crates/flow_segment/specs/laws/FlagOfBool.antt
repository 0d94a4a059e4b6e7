-- What the worker of truth values as segments keeps to.
use Rattle.std.specs.Prelude.{◌≡◌, zero, suc, true, false, Bool, List, [], ◌∷◌, refl}
use Rattle.std.proofs.Common.{arith}
use Rattle.flow_messages.specs.Cells.{Cell, flag}
use Rattle.flow_base.specs.Flags.{F, T}
use Rattle.flow_base.specs.Columns.{Columns, push_column, rows_from}
use Rattle.flow_base.specs.Machines.{MachineLaws, SoundAt, Runs}
use Rattle.flow_base.specs.MachineRuns.{Then, reading, writing, run_is}
use Rattle.flow_segment.specs.Rows.{flag_of_bool_reads, flag_of_bool_writes}
use Rattle.flow_segment.specs.laws.FlagLaws.{flag_laws}
use Rattle.flow_segment.specs.FlagOfBoolMachine.{flag_of_bool_move, flag_of_bool_table, flag_of_bool_machine}
use Rattle.flow_segment.specs.declared.flag_of_bool.FlagOfBoolStage.{FlagOfBoolStage}
use Rattle.flow_segment.specs.declared.flag_of_bool.FlagOfBoolStage.TheVariants.{Start, Element, End}

sound : (s : FlagOfBoolStage) → SoundAt flag_of_bool_machine tt s (flag_of_bool_move s)
sound Start = (refl, (omega arith, refl, λ _. (tt, tt), λ _ _ _. (tt, tt)))
sound Element = (omega arith, omega arith, λ _. (refl, tt), λ _ _ _. (tt, tt))
sound End = (omega arith, omega arith, λ _. (refl, tt), λ _ _ _. (tt, tt))

runs : (truths : List Bool) → Runs flag_of_bool_machine tt Start (flag_of_bool_reads truths) (flag_of_bool_writes truths)
runs [] = (zero, (refl, refl))
runs (true ∷ truths) = let k = runs truths in (suc (suc (suc k.0)), (refl, (refl, k.1)))
runs (false ∷ truths) = let k = runs truths in (suc (suc k.0), (refl, k.1))

-- what a run reads and writes
data Owes : FlagOfBoolStage → Columns → Columns → Type 0 where
  start : (truths : List Bool) → Owes Start (flag_of_bool_reads truths) (flag_of_bool_writes truths)
  element : {i o : Columns} → Owes End i o → Owes Element i (push_column 0 F o)
  last : {i o : Columns} → Owes Start i o → Owes End i (push_column 0 T o)

earlier : (s : FlagOfBoolStage) (x : Cell) (i o : Columns) → Then (λ next. Owes next i o) (flag_of_bool_move s) x → Owes s (reading (flag_of_bool_move s) x i) (writing (flag_of_bool_move s) o)
earlier Start (flag true) _ _ (element (last (start truths))) = start (true ∷ truths)
earlier Start (flag false) _ _ (last (start truths)) = start (false ∷ truths)
earlier Element _ _ _ o = element o
earlier End _ _ _ o = last o
earlier _ _ _ _ h = absurd h

whole : {i o : Columns} → Owes Start i o → (truths : List Bool) × (i ≡ flag_of_bool_reads truths) × (o ≡ flag_of_bool_writes truths)
whole (start truths) = (truths, refl, refl)

pub flag_of_bool_laws : MachineLaws flag_of_bool_machine
flag_of_bool_laws = flag_laws flag_of_bool_table sound refl (
    rows_from flag_of_bool_reads flag_of_bool_writes (Runs flag_of_bool_machine tt Start) runs (λ i o r. whole (run_is flag_of_bool_machine tt Owes sound (start []) earlier Start i o r)) 1 1)
