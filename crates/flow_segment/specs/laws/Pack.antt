-- The laws of Pack.
use Rattle.std.specs.Prelude.{◌≡◌, zero, suc, true, false, [], ◌∷◌, Ok, refl}
use Rattle.std.proofs.Common.{arith}
use Rattle.flow_messages.specs.Cells.{Cell, flag, is_of}
use Rattle.flow_messages.specs.declared.message.Kind.{Kind}
use Rattle.flow_base.specs.Ranges.{AllOf}
use Rattle.flow_base.specs.Columns.{Columns, push_column, rows_from}
use Rattle.flow_base.specs.Machines.{Run, Runs, SoundAt, MachineLaws}
use Rattle.flow_base.specs.MachineRuns.{leads_on, led_on, reading, writing, Then, run_is}
use Rattle.flow_segment.specs.Rows.{Pairs, pair_items, pack_reads, items_kept}
use Rattle.flow_segment.specs.PackMachine.{PackState, at_start, at_item, at_copy, pack_move, pack_machine}

sound : (k : Kind) (s : PackState) → SoundAt pack_machine k s (pack_move k s)
sound k at_start = (refl, (omega arith, refl, λ _. (tt, tt), λ _ _ _. (tt, tt)))
sound k (at_item true) = (omega arith, refl, λ _ x e. e, λ _ _ _ x e range. range)
sound k (at_item false) = (omega arith, refl, λ _ x e. tt, λ _ _ _ x e range. tt)
sound k (at_copy x) = (omega arith, omega arith, λ h. (h, tt), λ _ _ h. (h, tt))

runs : (k : Kind) (xs : Pairs) → AllOf k (pair_items xs) → Runs pack_machine k at_start (pack_reads xs) (items_kept xs ∷ [])
runs k [] h = (zero, (refl, refl))
runs k ((true, x) ∷ xs) h =
    let g = runs k xs h.1 in
    (suc (suc (suc g.0)), leads_on k (λ x. Ok (at_copy x)) x (λ s. Run pack_machine k (suc g.0) s (pack_reads xs) ((x ∷ items_kept xs) ∷ [])) h.0 (refl, g.1))
runs k ((false, x) ∷ xs) h =
    let g = runs k xs h.1 in
    (suc (suc g.0), leads_on k (λ _. Ok at_start) x (λ s. Run pack_machine k g.0 s (pack_reads xs) (items_kept xs ∷ [])) h.0 g.1)

-- what a run reads and writes
data Owes (k : Kind) : PackState → Columns → Columns → Type 0 where
  start : (xs : Pairs) → AllOf k (pair_items xs) → Owes k at_start (pack_reads xs) (items_kept xs ∷ [])
  keeps : (x : Cell) (xs : Pairs) → is_of k x ≡ true → AllOf k (pair_items xs) → Owes k (at_item true) (push_column 1 x (pack_reads xs)) ((x ∷ items_kept xs) ∷ [])
  drops : (x : Cell) (xs : Pairs) → is_of k x ≡ true → AllOf k (pair_items xs) → Owes k (at_item false) (push_column 1 x (pack_reads xs)) (items_kept xs ∷ [])
  copied : (x : Cell) {i o : Columns} → Owes k at_start i o → Owes k (at_copy x) i (push_column 0 x o)

keep : (k : Kind) (x : Cell) (i o : Columns) → is_of k x ≡ true → Owes k (at_copy x) i o → Owes k (at_item true) (push_column 1 x i) o
keep k x _ _ is (copied _ (start xs h)) = keeps x xs is h

drop : (k : Kind) (x : Cell) (i o : Columns) → is_of k x ≡ true → Owes k at_start i o → Owes k (at_item false) (push_column 1 x i) o
drop k x _ _ is (start xs h) = drops x xs is h

earlier : (k : Kind) (s : PackState) (x : Cell) (i o : Columns) → Then (λ next. Owes k next i o) (pack_move k s) x → Owes k s (reading (pack_move k s) x i) (writing (pack_move k s) o)
earlier k at_start (flag true) _ _ (keeps x xs is h) = start ((true, x) ∷ xs) (is, h)
earlier k at_start (flag false) _ _ (drops x xs is h) = start ((false, x) ∷ xs) (is, h)
earlier k (at_item true) x i o h = let g = led_on k (λ x. Ok (at_copy x)) x (λ next. Owes k next i o) h in keep k x i o g.0 g.1
earlier k (at_item false) x i o h = let g = led_on k (λ _. Ok at_start) x (λ next. Owes k next i o) h in drop k x i o g.0 g.1
earlier k (at_copy x) _ _ _ o = copied x o
earlier k _ _ _ _ h = absurd h

whole : (k : Kind) {i o : Columns} → Owes k at_start i o → (x : (xs : Pairs) × AllOf k (pair_items xs)) × (i ≡ pack_reads x.0) × (o ≡ items_kept x.0 ∷ [])
whole k (start xs h) = ((xs, h), refl, refl)

pub pack_laws : MachineLaws pack_machine
pack_laws = record {
  sound = sound;
  begins_at_start = λ _. refl;
  starts_of_kind = λ _. tt;
  rows = λ k i o. rows_from {X = (xs : Pairs) × AllOf k (pair_items xs)} (λ x. pack_reads x.0) (λ x. items_kept x.0 ∷ []) (Runs pack_machine k at_start) (λ x. runs k x.0 x.1) (
      λ i o r. whole k (run_is pack_machine k (Owes k) (sound k) (start [] tt) (earlier k) at_start i o r)) 2 1 i o;
}
