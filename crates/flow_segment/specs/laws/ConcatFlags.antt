-- What the worker of segments of segments keeps to.
use Rattle.std.specs.Prelude.{◌≡◌, ℕ, zero, suc, true, false, List, [], ◌∷◌, ◌++◌, length, Ok, refl}
use Rattle.std.proofs.Common.{arith, sym, ap, subst}
use Rattle.flow_messages.specs.Cells.{Cell, flag}
use Rattle.flow_base.specs.Flags.{F, T, elements, flags, concatenation, lengths}
use Rattle.flow_base.specs.Columns.{Columns, push_column, rows_from}
use Rattle.flow_base.specs.Machines.{on_flag, MachineLaws, SoundAt, Runs}
use Rattle.flow_base.specs.MachineRuns.{Then, reading, writing, run_is}
use Rattle.flow_segment.specs.Rows.{concat_flags_reads, concat_flags_writes}
use Rattle.flow_segment.specs.laws.FlagLaws.{from_start, flag_laws, all_elements, sum_flags, sums_are}
use Rattle.flow_segment.specs.ConcatFlagsMachine.{concat_flags_move, concat_flags_table, concat_flags_machine}
use Rattle.flow_segment.specs.declared.concat_flags.ConcatFlagsStage.{ConcatFlagsStage}
use Rattle.flow_segment.specs.declared.concat_flags.ConcatFlagsStage.TheVariants.{Start, Outer, Inner, Element, End}

sound : (s : ConcatFlagsStage) → SoundAt concat_flags_machine tt s (concat_flags_move s)
sound Start = (refl, (omega arith, refl, λ _. (tt, tt), λ _ _ _. (tt, tt)))
sound Outer = (omega arith, refl, λ _. (tt, tt), λ _ _ _. (tt, tt))
sound Inner = (omega arith, refl, λ _. (tt, tt), λ _ _ _. (tt, tt))
sound Element = (omega arith, omega arith, λ _. (refl, tt), λ _ _ _. (tt, tt))
sound End = (omega arith, omega arith, λ _. (refl, tt), λ _ _ _. (tt, tt))

abbrev Does : ConcatFlagsStage → List Cell → List Cell → List Cell → Type 0
Does s f g h = Runs concat_flags_machine tt s (f ∷ g ∷ []) (h ∷ [])

-- what is left of these segments is a run
inner_runs : (m : ℕ) {f g h : List Cell} → Does Outer f g h → Does Inner f (elements m (T ∷ g)) (elements m h)
inner_runs zero r = (suc r.0, r.1)
inner_runs (suc m) r = let k = inner_runs m r in (suc (suc k.0), (refl, k.1))

outer_runs : (ms ns ks : List ℕ) {h : List Cell} → Does Start (flags ns) (flags ks) h → Does Outer (elements (length ms) (T ∷ flags ns)) (flags (ms ++ ks)) (all_elements (λ m. m) ms (T ∷ h))
outer_runs [] ns ks r = (suc (suc r.0), (refl, r.1))
outer_runs (m ∷ ms) ns ks r = let k = inner_runs m (outer_runs ms ns ks r) in (suc k.0, k.1)

runs : (groups : List (List ℕ)) → Does Start (flags (lengths groups)) (flags (concatenation groups)) (sum_flags (λ m. m) groups)
runs [] = (zero, (refl, refl))
runs (ms ∷ groups) = from_start concat_flags_machine tt (on_flag (Ok Inner) (Ok End)) (outer_runs ms (lengths groups) (concatenation groups) (runs groups))

-- what a run reads and writes
data Owes : ConcatFlagsStage → Columns → Columns → Type 0 where
  start : (groups : List (List ℕ)) → Owes Start (concat_flags_reads groups) (sum_flags (λ m. m) groups ∷ [])
  outer : (ms : List ℕ) (groups : List (List ℕ)) →
      Owes Outer (elements (length ms) (T ∷ flags (lengths groups)) ∷ flags (ms ++ concatenation groups) ∷ [])
      (all_elements (λ m. m) ms (T ∷ sum_flags (λ m. m) groups) ∷ [])
  inner : (m : ℕ) (ms : List ℕ) (groups : List (List ℕ)) →
      Owes Inner (elements (length ms) (T ∷ flags (lengths groups)) ∷ elements m (T ∷ flags (ms ++ concatenation groups)) ∷ [])
      (elements m (all_elements (λ m. m) ms (T ∷ sum_flags (λ m. m) groups)) ∷ [])
  element : {i o : Columns} → Owes Inner i o → Owes Element i (push_column 0 F o)
  last : {i o : Columns} → Owes Start i o → Owes End i (push_column 0 T o)

earlier : (s : ConcatFlagsStage) (x : Cell) (i o : Columns) → Then (λ next. Owes next i o) (concat_flags_move s) x → Owes s (reading (concat_flags_move s) x i) (writing (concat_flags_move s) o)
earlier Start (flag false) _ _ (inner m ms groups) = start ((m ∷ ms) ∷ groups)
earlier Start (flag true) _ _ (last (start groups)) = start ([] ∷ groups)
earlier Outer (flag false) _ _ (inner m ms groups) = outer (m ∷ ms) groups
earlier Outer (flag true) _ _ (last (start groups)) = outer [] groups
earlier Inner (flag false) _ _ (element (inner m ms groups)) = inner (suc m) ms groups
earlier Inner (flag true) _ _ (outer ms groups) = inner zero ms groups
earlier Element _ _ _ o = element o
earlier End _ _ _ o = last o
earlier _ _ _ _ h = absurd h

whole : {i o : Columns} → Owes Start i o → (groups : List (List ℕ)) × (i ≡ concat_flags_reads groups) × (o ≡ concat_flags_writes groups)
whole (start groups) = (groups, refl, ap (λ h. h ∷ []) (sym (sums_are (λ m. m) groups)))

pub concat_flags_laws : MachineLaws concat_flags_machine
concat_flags_laws = flag_laws concat_flags_table sound refl (
    rows_from concat_flags_reads concat_flags_writes (Runs concat_flags_machine tt Start)
    (λ groups. subst (Does Start (flags (lengths groups)) (flags (concatenation groups))) (sym (sums_are (λ m. m) groups)) (runs groups))
    (λ i o r. whole (run_is concat_flags_machine tt Owes sound (start []) earlier Start i o r)) 2 1)
