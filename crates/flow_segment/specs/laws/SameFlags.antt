-- What the worker of two streams of the same flags keeps to.
use Rattle.std.specs.Prelude.{◌≡◌, zero, suc, true, false, Bool, List, [], ◌∷◌, map, refl}
use Rattle.std.proofs.Common.{arith}
use Rattle.flow_messages.specs.Cells.{Cell, flag}
use Rattle.flow_base.specs.Columns.{Columns, rows_from}
use Rattle.flow_base.specs.Machines.{MachineLaws, SoundAt, Runs}
use Rattle.flow_base.specs.MachineRuns.{Then, reading, writing, run_is}
use Rattle.flow_segment.specs.Rows.{same_flags_reads}
use Rattle.flow_segment.specs.laws.FlagLaws.{flag_laws}
use Rattle.flow_segment.specs.SameFlagsMachine.{same_flags_move, same_flags_table, same_flags_machine}
use Rattle.flow_segment.specs.declared.same_flags.SameFlagsStage.{SameFlagsStage}
use Rattle.flow_segment.specs.declared.same_flags.SameFlagsStage.TheVariants.{Start, Second}

sound : (s : SameFlagsStage) → SoundAt same_flags_machine tt s (same_flags_move s)
sound Start = (refl, (omega arith, refl, λ _. (tt, tt), λ _ _ _. (tt, tt)))
sound (Second true) = (omega arith, refl, λ _. (tt, tt), λ _ _ _. (tt, tt))
sound (Second false) = (omega arith, refl, λ _. (tt, tt), λ _ _ _. (tt, tt))

runs : (bs : List Bool) → Runs same_flags_machine tt Start (same_flags_reads bs) []
runs [] = (zero, (refl, refl))
runs (true ∷ bs) = let k = runs bs in (suc (suc k.0), k.1)
runs (false ∷ bs) = let k = runs bs in (suc (suc k.0), k.1)

-- what a run reads
data Owes : SameFlagsStage → Columns → Columns → Type 0 where
  start : (bs : List Bool) → Owes Start (same_flags_reads bs) []
  second : (b : Bool) (bs : List Bool) → Owes (Second b) (map flag bs ∷ (flag b ∷ map flag bs) ∷ []) []

earlier : (s : SameFlagsStage) (x : Cell) (i o : Columns) → Then (λ next. Owes next i o) (same_flags_move s) x → Owes s (reading (same_flags_move s) x i) (writing (same_flags_move s) o)
earlier Start (flag true) _ _ (second true bs) = start (true ∷ bs)
earlier Start (flag false) _ _ (second false bs) = start (false ∷ bs)
earlier (Second true) (flag true) _ _ (start bs) = second true bs
earlier (Second false) (flag false) _ _ (start bs) = second false bs
earlier Start _ _ _ h = absurd h
earlier (Second true) _ _ _ h = absurd h
earlier (Second false) _ _ _ h = absurd h

whole : {i o : Columns} → Owes Start i o → (bs : List Bool) × (i ≡ same_flags_reads bs) × (o ≡ [])
whole (start bs) = (bs, refl, refl)

pub same_flags_laws : MachineLaws same_flags_machine
same_flags_laws = flag_laws same_flags_table sound refl (
    rows_from same_flags_reads (λ _. []) (Runs same_flags_machine tt Start) runs (λ i o r. whole (run_is same_flags_machine tt Owes sound (start []) earlier Start i o r)) 2 0)
