-- What the worker of the segments that are to be kept keeps to.
use Rattle.std.specs.Prelude.{◌≡◌, ℕ, zero, suc, true, false, Bool, List, [], ◌∷◌, map, refl}
use Rattle.std.proofs.Common.{arith}
use Rattle.flow_messages.specs.Cells.{Cell, flag}
use Rattle.flow_base.specs.Flags.{F, T, elements, flags}
use Rattle.flow_base.specs.Columns.{Columns, push_column, rows_from}
use Rattle.flow_base.specs.Machines.{MachineLaws, SoundAt, Runs}
use Rattle.flow_base.specs.MachineRuns.{Then, reading, writing, run_is}
use Rattle.flow_segment.specs.Rows.{pack_groups_reads, kept_flags, pack_groups_writes}
use Rattle.flow_segment.specs.laws.FlagLaws.{flag_laws}
use Rattle.flow_segment.specs.PackGroupsMachine.{pack_groups_move, pack_groups_table, pack_groups_machine}
use Rattle.flow_segment.specs.declared.pack_groups.PackGroupsStage.{PackGroupsStage}
use Rattle.flow_segment.specs.declared.pack_groups.PackGroupsStage.TheVariants.{Start, Flag, Element, End}

sound : (s : PackGroupsStage) → SoundAt pack_groups_machine tt s (pack_groups_move s)
sound Start = (refl, (omega arith, refl, λ _. (tt, tt), λ _ _ _. (tt, tt)))
sound (Flag true) = (omega arith, refl, λ _. (tt, tt), λ _ _ _. (tt, tt))
sound (Flag false) = (omega arith, refl, λ _. (tt, tt), λ _ _ _. (tt, tt))
sound Element = (omega arith, omega arith, λ _. (refl, tt), λ _ _ _. (tt, tt))
sound End = (omega arith, omega arith, λ _. (refl, tt), λ _ _ _. (tt, tt))

abbrev Does : PackGroupsStage → List Cell → List Cell → List Cell → Type 0
Does s b f g = Runs pack_groups_machine tt s (b ∷ f ∷ []) (g ∷ [])

-- a segment that is kept, or dropped, and then a run, is a run
kept : (n : ℕ) {b f g : List Cell} → Does Start b f g → Does (Flag true) b (elements n (T ∷ f)) (elements n (T ∷ g))
kept zero r = (suc (suc r.0), (refl, r.1))
kept (suc n) r = let k = kept n r in (suc (suc k.0), (refl, k.1))

dropped : (n : ℕ) {b f g : List Cell} → Does Start b f g → Does (Flag false) b (elements n (T ∷ f)) g
dropped zero r = (suc r.0, r.1)
dropped (suc n) r = let k = dropped n r in (suc k.0, k.1)

runs : (xs : List (Bool × ℕ)) → Runs pack_groups_machine tt Start (pack_groups_reads xs) (pack_groups_writes xs)
runs [] = (zero, (refl, refl))
runs ((true, n) ∷ xs) = let k = kept n (runs xs) in (suc k.0, k.1)
runs ((false, n) ∷ xs) = let k = dropped n (runs xs) in (suc k.0, k.1)

-- what a run reads and writes
data Owes : PackGroupsStage → Columns → Columns → Type 0 where
  start : (xs : List (Bool × ℕ)) → Owes Start (pack_groups_reads xs) (pack_groups_writes xs)
  keeps : (n : ℕ) (xs : List (Bool × ℕ)) → Owes (Flag true) (map (λ x. flag x.0) xs ∷ elements n (T ∷ flags (map (λ x. x.1) xs)) ∷ []) (elements n (T ∷ kept_flags xs) ∷ [])
  drops : (n : ℕ) (xs : List (Bool × ℕ)) → Owes (Flag false) (map (λ x. flag x.0) xs ∷ elements n (T ∷ flags (map (λ x. x.1) xs)) ∷ []) (kept_flags xs ∷ [])
  element : {i o : Columns} → Owes (Flag true) i o → Owes Element i (push_column 0 F o)
  last : {i o : Columns} → Owes Start i o → Owes End i (push_column 0 T o)

earlier : (s : PackGroupsStage) (x : Cell) (i o : Columns) → Then (λ next. Owes next i o) (pack_groups_move s) x → Owes s (reading (pack_groups_move s) x i) (writing (pack_groups_move s) o)
earlier Start (flag true) _ _ (keeps n xs) = start ((true, n) ∷ xs)
earlier Start (flag false) _ _ (drops n xs) = start ((false, n) ∷ xs)
earlier (Flag true) (flag false) _ _ (element (keeps n xs)) = keeps (suc n) xs
earlier (Flag true) (flag true) _ _ (last (start xs)) = keeps zero xs
earlier (Flag false) (flag false) _ _ (drops n xs) = drops (suc n) xs
earlier (Flag false) (flag true) _ _ (start xs) = drops zero xs
earlier Element _ _ _ o = element o
earlier End _ _ _ o = last o
earlier (Flag true) _ _ _ h = absurd h
earlier (Flag false) _ _ _ h = absurd h
earlier _ _ _ _ h = absurd h

whole : {i o : Columns} → Owes Start i o → (xs : List (Bool × ℕ)) × (i ≡ pack_groups_reads xs) × (o ≡ pack_groups_writes xs)
whole (start xs) = (xs, refl, refl)

pub pack_groups_laws : MachineLaws pack_groups_machine
pack_groups_laws = flag_laws pack_groups_table sound refl (
    rows_from pack_groups_reads pack_groups_writes (Runs pack_groups_machine tt Start) runs (λ i o r. whole (run_is pack_groups_machine tt Owes sound (start []) earlier Start i o r)) 2 1)
