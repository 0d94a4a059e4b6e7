-- What the worker of segments joined to segments keeps to.
use Rattle.std.specs.Prelude.{◌≡◌, ℕ, zero, suc, ◌+◌, true, false, List, [], ◌∷◌, map, Ok, refl}
use Rattle.std.proofs.Common.{arith, sym, ◌∙◌, ap, subst}
use Rattle.flow_messages.specs.Cells.{Cell, flag}
use Rattle.flow_base.specs.Flags.{F, T, elements, flags}
use Rattle.flow_base.specs.Segments.{elements-add}
use Rattle.flow_base.specs.Columns.{Columns, push_column, rows_from}
use Rattle.flow_base.specs.Machines.{on_flag, MachineLaws, SoundAt, Runs}
use Rattle.flow_base.specs.MachineRuns.{Then, reading, writing, run_is}
use Rattle.flow_segment.specs.Rows.{append_flags_reads, append_flags_writes}
use Rattle.flow_segment.specs.laws.FlagLaws.{from_start, flag_laws}
use Rattle.flow_segment.specs.AppendFlagsMachine.{append_flags_move, append_flags_table, append_flags_machine}
use Rattle.flow_segment.specs.declared.append_flags.AppendFlagsStage.{AppendFlagsStage}
use Rattle.flow_segment.specs.declared.append_flags.AppendFlagsStage.TheVariants.{Start, First, Second, FirstElement, SecondElement, End}

sound : (s : AppendFlagsStage) → SoundAt append_flags_machine tt s (append_flags_move s)
sound Start = (refl, (omega arith, refl, λ _. (tt, tt), λ _ _ _. (tt, tt)))
sound First = (omega arith, refl, λ _. (tt, tt), λ _ _ _. (tt, tt))
sound Second = (omega arith, refl, λ _. (tt, tt), λ _ _ _. (tt, tt))
sound FirstElement = (omega arith, omega arith, λ _. (refl, tt), λ _ _ _. (tt, tt))
sound SecondElement = (omega arith, omega arith, λ _. (refl, tt), λ _ _ _. (tt, tt))
sound End = (omega arith, omega arith, λ _. (refl, tt), λ _ _ _. (tt, tt))

-- the flags of the first segments, and of the second ones
abbrev firsts : List (ℕ × ℕ) → List Cell
firsts xs = flags (map (λ x. x.0) xs)

abbrev seconds : List (ℕ × ℕ) → List Cell
seconds xs = flags (map (λ x. x.1) xs)

-- the elements of the first segment, those of the second, and then T
abbrev all_written : List (ℕ × ℕ) → List Cell
all_written [] = []
all_written (x ∷ xs) = elements x.0 (elements x.1 (T ∷ all_written xs))

written_is : (xs : List (ℕ × ℕ)) → flags (map (λ x. x.0 + x.1) xs) ≡ all_written xs
written_is [] = refl
written_is (x ∷ xs) = ap (λ h. elements (x.0 + x.1) (T ∷ h)) (written_is xs) ∙ elements-add x.0 x.1 (T ∷ all_written xs)

abbrev Does : AppendFlagsStage → List Cell → List Cell → List Cell → Type 0
Does s f g h = Runs append_flags_machine tt s (f ∷ g ∷ []) (h ∷ [])

-- what is left of a pair of segments, and then a run, is a run
second_runs : (m : ℕ) {f g h : List Cell} → Does Start f g h → Does Second f (elements m (T ∷ g)) (elements m (T ∷ h))
second_runs zero r = (suc (suc r.0), (refl, r.1))
second_runs (suc m) r = let k = second_runs m r in (suc (suc k.0), (refl, k.1))

first_runs : (n m : ℕ) {f g h : List Cell} → Does Start f g h → Does First (elements n (T ∷ f)) (elements m (T ∷ g)) (elements n (elements m (T ∷ h)))
first_runs zero m r = let k = second_runs m r in (suc k.0, k.1)
first_runs (suc n) m r = let k = first_runs n m r in (suc (suc k.0), (refl, k.1))

runs : (xs : List (ℕ × ℕ)) → Does Start (firsts xs) (seconds xs) (all_written xs)
runs [] = (zero, (refl, refl))
runs (x ∷ xs) = from_start append_flags_machine tt (on_flag (Ok FirstElement) (Ok Second)) (first_runs x.0 x.1 (runs xs))

-- what a run reads and writes
data Owes : AppendFlagsStage → Columns → Columns → Type 0 where
  start : (xs : List (ℕ × ℕ)) → Owes Start (append_flags_reads xs) (all_written xs ∷ [])
  first : (n m : ℕ) (xs : List (ℕ × ℕ)) → Owes First (elements n (T ∷ firsts xs) ∷ elements m (T ∷ seconds xs) ∷ []) (elements n (elements m (T ∷ all_written xs)) ∷ [])
  second : (m : ℕ) (xs : List (ℕ × ℕ)) → Owes Second (firsts xs ∷ elements m (T ∷ seconds xs) ∷ []) (elements m (T ∷ all_written xs) ∷ [])
  first_element : {i o : Columns} → Owes First i o → Owes FirstElement i (push_column 0 F o)
  second_element : {i o : Columns} → Owes Second i o → Owes SecondElement i (push_column 0 F o)
  last : {i o : Columns} → Owes Start i o → Owes End i (push_column 0 T o)

earlier : (s : AppendFlagsStage) (x : Cell) (i o : Columns) → Then (λ next. Owes next i o) (append_flags_move s) x → Owes s (reading (append_flags_move s) x i) (writing (append_flags_move s) o)
earlier Start (flag false) _ _ (first_element (first n m xs)) = start ((suc n, m) ∷ xs)
earlier Start (flag true) _ _ (second m xs) = start ((zero, m) ∷ xs)
earlier First (flag false) _ _ (first_element (first n m xs)) = first (suc n) m xs
earlier First (flag true) _ _ (second m xs) = first zero m xs
earlier Second (flag false) _ _ (second_element (second m xs)) = second (suc m) xs
earlier Second (flag true) _ _ (last (start xs)) = second zero xs
earlier FirstElement _ _ _ o = first_element o
earlier SecondElement _ _ _ o = second_element o
earlier End _ _ _ o = last o
earlier _ _ _ _ h = absurd h

whole : {i o : Columns} → Owes Start i o → (xs : List (ℕ × ℕ)) × (i ≡ append_flags_reads xs) × (o ≡ append_flags_writes xs)
whole (start xs) = (xs, refl, ap (λ h. h ∷ []) (sym (written_is xs)))

pub append_flags_laws : MachineLaws append_flags_machine
append_flags_laws = flag_laws append_flags_table sound refl (
    rows_from append_flags_reads append_flags_writes (Runs append_flags_machine tt Start)
    (λ xs. subst (Does Start (firsts xs) (seconds xs)) (sym (written_is xs)) (runs xs))
    (λ i o r. whole (run_is append_flags_machine tt Owes sound (start []) earlier Start i o r)) 2 1)
