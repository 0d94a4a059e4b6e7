-- The laws of InterleaveGroups.
use Rattle.std.specs.Prelude.{◌≡◌, ℕ, zero, suc, true, false, List, [], ◌∷◌, ◌++◌, length, Ok, refl}
use Rattle.std.proofs.Common.{arith}
use Rattle.flow_messages.specs.Cells.{Cell, flag}
use Rattle.flow_base.specs.Flags.{F, T, elements, flags, concatenation, lengths}
use Rattle.flow_base.specs.Columns.{Columns, push_column, rows_from}
use Rattle.flow_base.specs.Machines.{on_flag, Runs, SoundAt, MachineLaws}
use Rattle.flow_base.specs.MachineRuns.{reading, writing, Then, run_is}
use Rattle.flow_segment.specs.Rows.{Sides, lefts, rights, alternated, interleave_groups_reads}
use Rattle.flow_segment.specs.laws.FlagLaws.{from_start, flag_laws}
use Rattle.flow_segment.specs.InterleaveGroupsMachine.{interleave_groups_move, interleave_groups_table, interleave_groups_machine}
use Rattle.flow_segment.specs.declared.interleave_groups.InterleaveGroupsStage.{InterleaveGroupsStage}
use Rattle.flow_segment.specs.declared.interleave_groups.InterleaveGroupsStage.TheVariants.{Start, Left, LeftGroup, LeftElement, LeftEnd, Right, RightGroup, RightElement, RightEnd}

sound : (s : InterleaveGroupsStage) → SoundAt interleave_groups_machine tt s (interleave_groups_move s)
sound Start = (refl, (omega arith, refl, λ _. (tt, tt), λ _ _ _. (tt, tt)))
sound Left = (omega arith, refl, λ _. (tt, tt), λ _ _ _. (tt, tt))
sound LeftGroup = (omega arith, refl, λ _. (tt, tt), λ _ _ _. (tt, tt))
sound LeftElement = (omega arith, omega arith, λ _. (refl, tt), λ _ _ _. (tt, tt))
sound LeftEnd = (omega arith, omega arith, λ _. (refl, tt), λ _ _ _. (tt, tt))
sound Right = (omega arith, refl, λ _. (tt, tt), λ _ _ _. (tt, tt))
sound RightGroup = (omega arith, refl, λ _. (tt, tt), λ _ _ _. (tt, tt))
sound RightElement = (omega arith, omega arith, λ _. (refl, tt), λ _ _ _. (tt, tt))
sound RightEnd = (omega arith, omega arith, λ _. (refl, tt), λ _ _ _. (tt, tt))

abbrev Does : InterleaveGroupsStage → List Cell → List Cell → List Cell → List Cell → List Cell → Type 0
Does s f g p q r = Runs interleave_groups_machine tt s (f ∷ g ∷ p ∷ q ∷ []) (r ∷ [])

-- a group of a side and then a run are a run
right_group_runs : (m : ℕ) {f g p q r : List Cell} → Does Right f g p q r → Does RightGroup f g p (elements m (T ∷ q)) (elements m (T ∷ r))
right_group_runs zero r = (suc (suc r.0), (refl, r.1))
right_group_runs (suc m) r = let n = right_group_runs m r in (suc (suc n.0), (refl, n.1))

left_group_runs : (m : ℕ) {f g p q r : List Cell} → Does Left f g p q r → Does LeftGroup f g (elements m (T ∷ p)) q (elements m (T ∷ r))
left_group_runs zero r = (suc (suc r.0), (refl, r.1))
left_group_runs (suc m) r = let n = left_group_runs m r in (suc (suc n.0), (refl, n.1))

-- so are the groups of a side
right_runs : (vs ks ns : List ℕ) {f g p : List Cell} → Does Start f g p (flags ks) (flags ns) → Does Right f (elements (length vs) (T ∷ g)) p (flags (vs ++ ks)) (flags (vs ++ ns))
right_runs [] ks ns r = (suc r.0, r.1)
right_runs (m ∷ vs) ks ns r = let n = right_group_runs m (right_runs vs ks ns r) in (suc n.0, n.1)

left_runs : (us ks ns : List ℕ) {f g q : List Cell} → Does Right f g (flags ks) q (flags ns) → Does Left (elements (length us) (T ∷ f)) g (flags (us ++ ks)) q (flags (us ++ ns))
left_runs [] ks ns r = (suc r.0, r.1)
left_runs (m ∷ us) ks ns r = let n = left_group_runs m (left_runs us ks ns r) in (suc n.0, n.1)

runs : (xs : Sides ℕ) → Runs interleave_groups_machine tt Start (interleave_groups_reads xs) (flags (alternated xs) ∷ [])
runs [] = (zero, (refl, refl))
runs ((us, vs) ∷ xs) =
    from_start interleave_groups_machine tt (on_flag (Ok LeftGroup) (Ok Right))
    (left_runs us (concatenation (lefts xs)) (vs ++ alternated xs) (right_runs vs (concatenation (rights xs)) (alternated xs) (runs xs)))

-- what a run reads and writes
data Owes : InterleaveGroupsStage → Columns → Columns → Type 0 where
  start : (xs : Sides ℕ) → Owes Start (interleave_groups_reads xs) (flags (alternated xs) ∷ [])
  right : (vs : List ℕ) (xs : Sides ℕ) →
      Owes Right (flags (lengths (lefts xs)) ∷ elements (length vs) (T ∷ flags (lengths (rights xs))) ∷ flags (concatenation (lefts xs))
      ∷ flags (vs ++ concatenation (rights xs)) ∷ []) (flags (vs ++ alternated xs) ∷ [])
  left : (us vs : List ℕ) (xs : Sides ℕ) →
      Owes Left (elements (length us) (T ∷ flags (lengths (lefts xs))) ∷ elements (length vs) (T ∷ flags (lengths (rights xs)))
      ∷ flags (us ++ concatenation (lefts xs)) ∷ flags (vs ++ concatenation (rights xs)) ∷ [])
      (flags (us ++ (vs ++ alternated xs)) ∷ [])
  right_group : (m : ℕ) {f g p q r : List Cell} → Owes Right (f ∷ g ∷ p ∷ q ∷ []) (r ∷ []) → Owes RightGroup (f ∷ g ∷ p ∷ elements m (T ∷ q) ∷ []) (elements m (T ∷ r) ∷ [])
  left_group : (m : ℕ) {f g p q r : List Cell} → Owes Left (f ∷ g ∷ p ∷ q ∷ []) (r ∷ []) → Owes LeftGroup (f ∷ g ∷ elements m (T ∷ p) ∷ q ∷ []) (elements m (T ∷ r) ∷ [])
  right_element : {i o : Columns} → Owes RightGroup i o → Owes RightElement i (push_column 0 F o)
  right_end : {i o : Columns} → Owes Right i o → Owes RightEnd i (push_column 0 T o)
  left_element : {i o : Columns} → Owes LeftGroup i o → Owes LeftElement i (push_column 0 F o)
  left_end : {i o : Columns} → Owes Left i o → Owes LeftEnd i (push_column 0 T o)

earlier : (s : InterleaveGroupsStage) (x : Cell) (i o : Columns) → Then (λ next. Owes next i o) (interleave_groups_move s) x →
    Owes s (reading (interleave_groups_move s) x i) (writing (interleave_groups_move s) o)
earlier Start (flag false) _ _ (left_group m (left us vs xs)) = start ((m ∷ us, vs) ∷ xs)
earlier Start (flag true) _ _ (right vs xs) = start (([], vs) ∷ xs)
earlier Left (flag false) _ _ (left_group m (left us vs xs)) = left (m ∷ us) vs xs
earlier Left (flag true) _ _ (right vs xs) = left [] vs xs
earlier LeftGroup (flag false) _ _ (left_element (left_group m o)) = left_group (suc m) o
earlier LeftGroup (flag true) _ _ (left_end (left us vs xs)) = left_group zero (left us vs xs)
earlier LeftElement _ _ _ o = left_element o
earlier LeftEnd _ _ _ o = left_end o
earlier Right (flag false) _ _ (right_group m (right vs xs)) = right (m ∷ vs) xs
earlier Right (flag true) _ _ (start xs) = right [] xs
earlier RightGroup (flag false) _ _ (right_element (right_group m o)) = right_group (suc m) o
earlier RightGroup (flag true) _ _ (right_end (right vs xs)) = right_group zero (right vs xs)
earlier RightElement _ _ _ o = right_element o
earlier RightEnd _ _ _ o = right_end o
earlier _ _ _ _ h = absurd h

whole : {i o : Columns} → Owes Start i o → (xs : Sides ℕ) × (i ≡ interleave_groups_reads xs) × (o ≡ flags (alternated xs) ∷ [])
whole (start xs) = (xs, refl, refl)

pub interleave_groups_laws : MachineLaws interleave_groups_machine
interleave_groups_laws = flag_laws interleave_groups_table sound refl (
    rows_from interleave_groups_reads (λ xs. flags (alternated xs) ∷ []) (Runs interleave_groups_machine tt Start) runs
    (λ i o r. whole (run_is interleave_groups_machine tt Owes sound (start []) earlier Start i o r)) 4 1)
