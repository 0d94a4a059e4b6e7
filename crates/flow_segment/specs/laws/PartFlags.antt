-- The laws of PartFlags.
use Rattle.std.specs.Prelude.{◌≡◌, ℕ, zero, suc, true, false, List, [], ◌∷◌, ◌++◌, length, Ok, refl}
use Rattle.std.proofs.Common.{arith, sym, subst}
use Rattle.std.proofs.Math.Path.{ap₂}
use Rattle.flow_messages.specs.Cells.{Cell, flag}
use Rattle.flow_base.specs.Flags.{F, T, elements, flags, concatenation, lengths}
use Rattle.flow_base.specs.Columns.{Columns, push_column, rows_from}
use Rattle.flow_base.specs.Machines.{on_flag, Runs, SoundAt, MachineLaws}
use Rattle.flow_base.specs.MachineRuns.{reading, writing, Then, run_is}
use Rattle.flow_segment.specs.Rows.{part_flags_reads, part_flags_writes}
use Rattle.flow_segment.specs.laws.FlagLaws.{from_start, flag_laws, all_elements, sum_flags, sums_are}
use Rattle.flow_segment.specs.PartFlagsMachine.{part_flags_move, part_flags_table, part_flags_machine}
use Rattle.flow_segment.specs.declared.part_flags.PartFlagsStage.{PartFlagsStage}
use Rattle.flow_segment.specs.declared.part_flags.PartFlagsStage.TheVariants.{Start, Parted, Open, Test, Element, PartElement, Part, PartEnd, Last, End}

sound : (s : PartFlagsStage) → SoundAt part_flags_machine tt s (part_flags_move s)
sound Start = (refl, (omega arith, refl, λ _. (tt, tt), λ _ _ _. (tt, tt)))
sound Parted = (omega arith, refl, λ _. (tt, tt), λ _ _ _. (tt, tt))
sound Open = (omega arith, refl, λ _. (tt, tt), λ _ _ _. (tt, tt))
sound Test = (omega arith, refl, λ _. (tt, tt), λ _ _ _. (tt, tt))
sound Element = (omega arith, refl, λ _. (tt, tt), λ _ _ _. (tt, tt))
sound PartElement = (omega arith, omega arith, λ _. (refl, tt), λ _ _ _. (tt, tt))
sound Part = (omega arith, omega arith, λ _. (refl, tt), λ _ _ _. (tt, tt))
sound PartEnd = (omega arith, omega arith, λ _. (refl, tt), λ _ _ _. (tt, tt))
sound Last = (omega arith, refl, λ _. (tt, tt), λ _ _ _. (tt, tt))
sound End = (omega arith, omega arith, λ _. (refl, tt), λ _ _ _. (tt, tt))

-- what segments read, one element at a time
abbrev each_reads : List (List ℕ) → Columns
each_reads groups = sum_flags suc groups ∷ flags (concatenation groups) ∷ sum_flags (λ m. m) groups ∷ []

reads_are : (groups : List (List ℕ)) → part_flags_reads groups ≡ each_reads groups
reads_are groups = ap₂ (λ g f. g ∷ flags (concatenation groups) ∷ f ∷ []) (sums_are suc groups) (sums_are (λ m. m) groups)

abbrev Does : PartFlagsStage → List Cell → List Cell → List Cell → List Cell → List Cell → Type 0
Does s g b f h k = Runs part_flags_machine tt s (g ∷ b ∷ f ∷ []) (h ∷ k ∷ [])

-- a part, of which one flag has come, and then a run is a run
test_runs : (m : ℕ) {g b f h k : List Cell} → Does Parted g b f h k → Does Test (elements m g) (elements m (T ∷ b)) (elements m f) (F ∷ h) (elements m (T ∷ k))
test_runs zero r = (suc (suc (suc r.0)), (refl, (refl, r.1)))
test_runs (suc m) r = let n = test_runs m r in (suc (suc (suc (suc n.0))), (refl, n.1))

-- so are the parts of a segment, and its end
parted_runs : (ms ks : List ℕ) {g f h : List Cell} → Does Start g (flags ks) f h (flags ks) →
    Does Parted (all_elements suc ms (T ∷ g)) (flags (ms ++ ks)) (all_elements (λ m. m) ms (T ∷ f)) (elements (length ms) (T ∷ h)) (flags (ms ++ ks))
parted_runs [] ks r = (suc (suc (suc r.0)), (refl, r.1))
parted_runs (m ∷ ms) ks r = let n = test_runs m (parted_runs ms ks r) in (suc n.0, n.1)

runs : (groups : List (List ℕ)) → Runs part_flags_machine tt Start (each_reads groups) (part_flags_writes groups)
runs [] = (zero, (refl, refl))
runs (ms ∷ groups) = from_start part_flags_machine tt (on_flag (Ok Test) (Ok Last)) (parted_runs ms (concatenation groups) (runs groups))

-- what a run reads and writes
data Owes : PartFlagsStage → Columns → Columns → Type 0 where
  start : (groups : List (List ℕ)) → Owes Start (each_reads groups) (part_flags_writes groups)
  parted : (ms : List ℕ) (groups : List (List ℕ)) → Owes Parted
      (all_elements suc ms (T ∷ sum_flags suc groups) ∷ flags (ms ++ concatenation groups) ∷ all_elements (λ m. m) ms (T ∷ sum_flags (λ m. m) groups) ∷ [])
      (elements (length ms) (T ∷ flags (lengths groups)) ∷ flags (ms ++ concatenation groups) ∷ [])
  test : (m : ℕ) (ms : List ℕ) (groups : List (List ℕ)) → Owes Test
      (elements m (all_elements suc ms (T ∷ sum_flags suc groups)) ∷ elements m (T ∷ flags (ms ++ concatenation groups)) ∷ elements m (all_elements (λ m. m) ms (T ∷ sum_flags (λ m. m) groups)) ∷ [])
      ((F ∷ elements (length ms) (T ∷ flags (lengths groups))) ∷ elements m (T ∷ flags (ms ++ concatenation groups)) ∷ [])
  unended : {i o : Columns} → Owes Test i o → Owes Open (push_column 0 F i) o
  element : {i o : Columns} → Owes PartElement i o → Owes Element (push_column 2 F i) o
  part_element : {i o : Columns} → Owes Open i o → Owes PartElement i (push_column 1 F o)
  part : {i o : Columns} → Owes PartEnd i o → Owes Part i (push_column 0 F o)
  part_end : {i o : Columns} → Owes Parted i o → Owes PartEnd i (push_column 1 T o)
  last : {i o : Columns} → Owes End i o → Owes Last (push_column 2 T i) o
  end : {i o : Columns} → Owes Start i o → Owes End i (push_column 0 T o)

earlier : (s : PartFlagsStage) (x : Cell) (i o : Columns) → Then (λ next. Owes next i o) (part_flags_move s) x → Owes s (reading (part_flags_move s) x i) (writing (part_flags_move s) o)
earlier Start (flag false) _ _ (test m ms groups) = start ((m ∷ ms) ∷ groups)
earlier Start (flag true) _ _ (last (end (start groups))) = start ([] ∷ groups)
earlier Parted (flag false) _ _ (test m ms groups) = parted (m ∷ ms) groups
earlier Parted (flag true) _ _ (last (end (start groups))) = parted [] groups
earlier Open (flag false) _ _ o = unended o
earlier Test (flag false) _ _ (element (part_element (unended (test m ms groups)))) = test (suc m) ms groups
earlier Test (flag true) _ _ (part (part_end (parted ms groups))) = test zero ms groups
earlier Element (flag false) _ _ o = element o
earlier PartElement _ _ _ o = part_element o
earlier Part _ _ _ o = part o
earlier PartEnd _ _ _ o = part_end o
earlier Last (flag true) _ _ o = last o
earlier End _ _ _ o = end o
earlier _ _ _ _ h = absurd h

whole : {i o : Columns} → Owes Start i o → (groups : List (List ℕ)) × (i ≡ part_flags_reads groups) × (o ≡ part_flags_writes groups)
whole (start groups) = (groups, sym (reads_are groups), refl)

pub part_flags_laws : MachineLaws part_flags_machine
part_flags_laws = flag_laws part_flags_table sound refl (
    rows_from part_flags_reads part_flags_writes (Runs part_flags_machine tt Start)
    (λ groups. subst (λ c. Runs part_flags_machine tt Start c (part_flags_writes groups)) (sym (reads_are groups)) (runs groups)) (
    λ i o r. whole (run_is part_flags_machine tt Owes sound (start []) earlier Start i o r)) 3 2)
