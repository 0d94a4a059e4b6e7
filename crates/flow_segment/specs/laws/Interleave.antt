-- The laws of Interleave.
use Rattle.std.specs.Prelude.{◌≡◌, zero, suc, true, false, List, [], ◌∷◌, ◌++◌, length, Ok, refl}
use Rattle.std.proofs.Common.{arith}
use Rattle.flow_messages.specs.Cells.{Cell, flag, is_of}
use Rattle.flow_messages.specs.declared.message.Kind.{Kind}
use Rattle.flow_base.specs.Flags.{T, elements, flags, concatenation, lengths}
use Rattle.flow_base.specs.Ranges.{AllOf}
use Rattle.flow_base.specs.Columns.{Columns, push_column, rows_from}
use Rattle.flow_base.specs.Machines.{Run, Runs, SoundAt, MachineLaws}
use Rattle.flow_base.specs.MachineRuns.{leads_on, led_on, reading, writing, Then, run_is}
use Rattle.flow_segment.specs.Rows.{Sides, lefts, rights, alternated, AllOfSides, interleave_reads}
use Rattle.flow_segment.specs.laws.FlagLaws.{from_start}
use Rattle.flow_segment.specs.InterleaveMachine.{InterleaveState, at_start, at_flag, at_item, at_copy, flag_of, interleave_move, interleave_machine}
use Rattle.flow_segment.specs.declared.interleave.Side.{Side}
use Rattle.flow_segment.specs.declared.interleave.Side.TheVariants.{Left, Right}

sound : (k : Kind) (s : InterleaveState) → SoundAt interleave_machine k s (interleave_move k s)
sound k at_start = (refl, (omega arith, refl, λ _. (tt, tt), λ _ _ _. (tt, tt)))
sound k (at_flag Left) = (omega arith, refl, λ _. (tt, tt), λ _ _ _. (tt, tt))
sound k (at_flag Right) = (omega arith, refl, λ _. (tt, tt), λ _ _ _. (tt, tt))
sound k (at_item Left) = (omega arith, refl, λ _ x e. e, λ _ _ _ x e range. range)
sound k (at_item Right) = (omega arith, refl, λ _ x e. e, λ _ _ _ x e range. range)
sound k (at_copy Left x) = (omega arith, omega arith, λ h. (h, tt), λ _ _ h. (h, tt))
sound k (at_copy Right x) = (omega arith, omega arith, λ h. (h, tt), λ _ _ h. (h, tt))

abbrev Does : Kind → InterleaveState → List Cell → List Cell → List Cell → List Cell → List Cell → Type 0
Does k s f g a b r = Runs interleave_machine k s (f ∷ g ∷ a ∷ b ∷ []) (r ∷ [])

-- the items of a side and then a run are a run
right_runs : (k : Kind) (v : List Cell) {f g a b r : List Cell} → AllOf k v → Does k at_start f g a b r → Does k (at_flag Right) f (elements (length v) (T ∷ g)) a (v ++ b) (v ++ r)
right_runs k [] h r = (suc r.0, r.1)
right_runs k (x ∷ v) {f = f} {g = g} {a = a} {b = b} {r = r} h d =
    let n = right_runs k v h.1 d in (
      suc (suc (suc n.0)),
      leads_on k (λ x. Ok (at_copy Right x)) x
          (λ s. Run interleave_machine k (suc n.0) s (f ∷ elements (length v) (T ∷ g) ∷ a ∷ (v ++ b) ∷ []) ((x ∷ (v ++ r)) ∷ [])) h.0 (refl, n.1),
    )

left_runs : (k : Kind) (u : List Cell) {f g a b r : List Cell} → AllOf k u → Does k (at_flag Right) f g a b r → Does k (at_flag Left) (elements (length u) (T ∷ f)) g (u ++ a) b (u ++ r)
left_runs k [] h r = (suc r.0, r.1)
left_runs k (x ∷ u) {f = f} {g = g} {a = a} {b = b} {r = r} h d =
    let n = left_runs k u h.1 d in (
      suc (suc (suc n.0)),
      leads_on k (λ x. Ok (at_copy Left x)) x
          (λ s. Run interleave_machine k (suc n.0) s (elements (length u) (T ∷ f) ∷ g ∷ (u ++ a) ∷ b ∷ []) ((x ∷ (u ++ r)) ∷ [])) h.0 (refl, n.1),
    )

runs : (k : Kind) (xs : Sides Cell) → AllOfSides k xs → Runs interleave_machine k at_start (interleave_reads xs) (alternated xs ∷ [])
runs k [] h = (zero, (refl, refl))
runs k ((u, v) ∷ xs) h = from_start interleave_machine k (flag_of Left) (left_runs k u h.0 (right_runs k v h.1 (runs k xs h.2)))

-- what a run reads and writes
data Owes (k : Kind) : InterleaveState → Columns → Columns → Type 0 where
  start : (xs : Sides Cell) → AllOfSides k xs → Owes k at_start (interleave_reads xs) (alternated xs ∷ [])
  right : (v : List Cell) (xs : Sides Cell) → AllOf k v → AllOfSides k xs →
      Owes k (at_flag Right)
      (flags (lengths (lefts xs)) ∷ elements (length v) (T ∷ flags (lengths (rights xs))) ∷ concatenation (lefts xs)
      ∷ (v ++ concatenation (rights xs)) ∷ []) ((v ++ alternated xs) ∷ [])
  left : (u v : List Cell) (xs : Sides Cell) → AllOf k u → AllOf k v → AllOfSides k xs →
      Owes k (at_flag Left)
      (elements (length u) (T ∷ flags (lengths (lefts xs))) ∷ elements (length v) (T ∷ flags (lengths (rights xs)))
      ∷ (u ++ concatenation (lefts xs)) ∷ (v ++ concatenation (rights xs)) ∷ []) ((u ++ (v ++ alternated xs)) ∷ [])
  left_item : (x : Cell) {i o : Columns} → is_of k x ≡ true → Owes k (at_flag Left) i o → Owes k (at_item Left) (push_column 2 x i) (push_column 0 x o)
  right_item : (x : Cell) {i o : Columns} → is_of k x ≡ true → Owes k (at_flag Right) i o → Owes k (at_item Right) (push_column 3 x i) (push_column 0 x o)
  copied : (side : Side) (x : Cell) {i o : Columns} → Owes k (at_flag side) i o → Owes k (at_copy side x) i (push_column 0 x o)

take_left : (k : Kind) (x : Cell) (i o : Columns) → is_of k x ≡ true → Owes k (at_copy Left x) i o → Owes k (at_item Left) (push_column 2 x i) o
take_left k x _ _ is (copied _ _ o) = left_item x is o

take_right : (k : Kind) (x : Cell) (i o : Columns) → is_of k x ≡ true → Owes k (at_copy Right x) i o → Owes k (at_item Right) (push_column 3 x i) o
take_right k x _ _ is (copied _ _ o) = right_item x is o

earlier : (k : Kind) (s : InterleaveState) (x : Cell) (i o : Columns) → Then (λ next. Owes k next i o) (interleave_move k s) x →
    Owes k s (reading (interleave_move k s) x i) (writing (interleave_move k s) o)
earlier k at_start (flag false) _ _ (left_item x is (left u v xs hu hv h)) = start ((x ∷ u, v) ∷ xs) ((is, hu), hv, h)
earlier k at_start (flag true) _ _ (right v xs hv h) = start (([], v) ∷ xs) (tt, hv, h)
earlier k (at_flag Left) (flag false) _ _ (left_item x is (left u v xs hu hv h)) = left (x ∷ u) v xs (is, hu) hv h
earlier k (at_flag Left) (flag true) _ _ (right v xs hv h) = left [] v xs tt hv h
earlier k (at_flag Right) (flag false) _ _ (right_item x is (right v xs hv h)) = right (x ∷ v) xs (is, hv) h
earlier k (at_flag Right) (flag true) _ _ (start xs h) = right [] xs tt h
earlier k (at_item Left) x i o h = let g = led_on k (λ x. Ok (at_copy Left x)) x (λ next. Owes k next i o) h in take_left k x i o g.0 g.1
earlier k (at_item Right) x i o h = let g = led_on k (λ x. Ok (at_copy Right x)) x (λ next. Owes k next i o) h in take_right k x i o g.0 g.1
earlier k (at_copy side x) _ _ _ o = copied side x o
earlier k at_start _ _ _ h = absurd h
earlier k (at_flag Left) _ _ _ h = absurd h
earlier k (at_flag Right) _ _ _ h = absurd h

whole : (k : Kind) {i o : Columns} → Owes k at_start i o → (x : (xs : Sides Cell) × AllOfSides k xs) × (i ≡ interleave_reads x.0) × (o ≡ alternated x.0 ∷ [])
whole k (start xs h) = ((xs, h), refl, refl)

pub interleave_laws : MachineLaws interleave_machine
interleave_laws = record {
  sound = sound;
  begins_at_start = λ _. refl;
  starts_of_kind = λ _. tt;
  rows = λ k i o. rows_from {X = (xs : Sides Cell) × AllOfSides k xs} (λ x. interleave_reads x.0) (λ x. alternated x.0 ∷ []) (Runs interleave_machine k at_start) (λ x. runs k x.0 x.1) (
      λ i o r. whole k (run_is interleave_machine k (Owes k) (sound k) (start [] tt) (earlier k) at_start i o r)) 4 1 i o;
}
