-- What the worker of segments of one element keeps to.
use Rattle.std.specs.Prelude.{◌≡◌, ℕ, zero, suc, true, false, [], ◌∷◌, replicate, refl}
use Rattle.std.proofs.Common.{arith}
use Rattle.flow_messages.specs.Cells.{Cell, flag}
use Rattle.flow_base.specs.Flags.{T, flags}
use Rattle.flow_base.specs.Columns.{Columns, rows_from}
use Rattle.flow_base.specs.Machines.{MachineLaws, SoundAt, Runs}
use Rattle.flow_base.specs.MachineRuns.{Then, reading, writing, run_is}
use Rattle.flow_segment.specs.Rows.{the_check_reads}
use Rattle.flow_segment.specs.laws.FlagLaws.{flag_laws}
use Rattle.flow_segment.specs.TheCheckMachine.{the_check_move, the_check_table, the_check_machine}
use Rattle.flow_segment.specs.declared.the_check.TheCheckStage.{TheCheckStage}
use Rattle.flow_segment.specs.declared.the_check.TheCheckStage.TheVariants.{Start, Element}

sound : (s : TheCheckStage) → SoundAt the_check_machine tt s (the_check_move s)
sound Start = (refl, (omega arith, refl, λ _. (tt, tt), λ _ _ _. (tt, tt)))
sound Element = (omega arith, refl, λ _. (tt, tt), λ _ _ _. (tt, tt))

runs : (n : ℕ) → Runs the_check_machine tt Start (the_check_reads n) []
runs zero = (zero, (refl, refl))
runs (suc n) = let k = runs n in (suc (suc k.0), k.1)

-- what a run reads
data Owes : TheCheckStage → Columns → Columns → Type 0 where
  start : (n : ℕ) → Owes Start (the_check_reads n) []
  element : (n : ℕ) → Owes Element ((T ∷ flags (replicate n 1)) ∷ []) []

earlier : (s : TheCheckStage) (x : Cell) (i o : Columns) → Then (λ next. Owes next i o) (the_check_move s) x → Owes s (reading (the_check_move s) x i) (writing (the_check_move s) o)
earlier Start (flag false) _ _ (element n) = start (suc n)
earlier Element (flag true) _ _ (start n) = element n
earlier Start _ _ _ h = absurd h
earlier Element _ _ _ h = absurd h

whole : {i o : Columns} → Owes Start i o → (n : ℕ) × (i ≡ the_check_reads n) × (o ≡ [])
whole (start n) = (n, refl, refl)

pub the_check_laws : MachineLaws the_check_machine
the_check_laws = flag_laws the_check_table sound refl (
    rows_from the_check_reads (λ _. []) (Runs the_check_machine tt Start) runs (λ i o r. whole (run_is the_check_machine tt Owes sound (start zero) earlier Start i o r)) 1 0)
