-- What the worker of an item for each element of a segment keeps to.
use Rattle.std.specs.Prelude.{◌≡◌, ℕ, zero, suc, true, false, List, [], ◌∷◌, ◌++◌, length, replicate, Ok, refl}
use Rattle.std.proofs.Common.{arith, sym, ap, subst}
use Rattle.flow_messages.specs.Cells.{Cell, flag, is_of}
use Rattle.flow_messages.specs.declared.message.Kind.{Kind}
use Rattle.flow_base.specs.Flags.{T, elements, flags}
use Rattle.flow_base.specs.Ranges.{AllOf}
use Rattle.flow_base.specs.Columns.{Columns, columns, push_column}
use Rattle.flow_base.specs.Machines.{MachineLaws, SoundAt, Run, Runs}
use Rattle.flow_base.specs.MachineRuns.{Then, reading, writing, run_is, leads_on, led_on}
use Rattle.flow_segment.specs.Rows.{repeated, DistRow}
use Rattle.flow_segment.specs.DistMachine.{DistState, at_start, at_flag, at_copy, dist_move, dist_machine}

sound : (k : Kind) (s : DistState) → SoundAt dist_machine k s (dist_move k s)
sound k at_start = (refl, (omega arith, refl, λ _ x e. e, λ _ _ _ x e h. h))
sound k (at_flag x) = (omega arith, refl, λ h. (h, tt), λ _ _ h. (h, tt))
sound k (at_copy x) = (omega arith, omega arith, λ h. (h, h), λ _ _ h. (h, h))

abbrev Does : Kind → DistState → List Cell → List Cell → List Cell → Type 0
Does k s a f r = Runs dist_machine k s (a ∷ f ∷ []) (r ∷ [])

-- what is left of a segment, and then a run, is a run
copies : (k : Kind) (n : ℕ) (x : Cell) {a f r : List Cell} → Does k at_start a f r → Does k (at_flag x) a (elements n (T ∷ f)) (replicate n x ++ r)
copies k zero x run = (suc run.0, run.1)
copies k (suc n) x run = let g = copies k n x run in (suc (suc g.0), (refl, g.1))

runs : (k : Kind) (ns : List ℕ) (a : List Cell) → length ns ≡ length a → AllOf k a → Does k at_start a (flags ns) (repeated ns a)
runs k [] [] e h = (zero, (refl, refl))
runs k (n ∷ ns) (x ∷ a) e h =
    let g = copies k n x (runs k ns a (omega arith) h.1) in
    (suc g.0, leads_on k (λ x. Ok (at_flag x)) x (λ s. Run dist_machine k g.0 s (a ∷ flags (n ∷ ns) ∷ []) (repeated (n ∷ ns) (x ∷ a) ∷ [])) h.0 g.1)
runs k [] (x ∷ a) e h = absurd (omega arith)
runs k (n ∷ ns) [] e h = absurd (omega arith)

-- what a run reads and writes
data Owes (k : Kind) : DistState → Columns → Columns → Type 0 where
  start : (ns : List ℕ) (a : List Cell) → length ns ≡ length a → AllOf k a → Owes k at_start (a ∷ flags ns ∷ []) (repeated ns a ∷ [])
  flagged : (x : Cell) (n : ℕ) (a f r : List Cell) → Owes k at_start (a ∷ f ∷ []) (r ∷ []) → Owes k (at_flag x) (a ∷ elements n (T ∷ f) ∷ []) ((replicate n x ++ r) ∷ [])
  copied : (x : Cell) {i o : Columns} → Owes k (at_flag x) i o → Owes k (at_copy x) i (push_column 0 x o)

begun : (k : Kind) (x : Cell) (i o : Columns) → is_of k x ≡ true → Owes k (at_flag x) i o → Owes k at_start (push_column 0 x i) o
begun k x _ _ is (flagged _ n _ _ _ (start ns a e h)) = start (n ∷ ns) (x ∷ a) (ap suc e) (is, h)

earlier : (k : Kind) (s : DistState) (x : Cell) (i o : Columns) → Then (λ next. Owes k next i o) (dist_move k s) x → Owes k s (reading (dist_move k s) x i) (writing (dist_move k s) o)
earlier k at_start x i o h = let g = led_on k (λ x. Ok (at_flag x)) x (λ next. Owes k next i o) h in begun k x i o g.0 g.1
earlier k (at_flag x) (flag false) _ _ (copied _ (flagged _ n a f r o)) = flagged x (suc n) a f r o
earlier k (at_flag x) (flag true) _ _ (start ns a e h) = flagged x zero a (flags ns) (repeated ns a) (start ns a e h)
earlier k (at_copy x) _ _ _ o = copied x o
earlier k _ _ _ _ h = absurd h

row_of : {k : Kind} {a f r : List Cell} → Owes k at_start (a ∷ f ∷ []) (r ∷ []) → DistRow k a f r
row_of (start ns a e h) = record { ns = ns; as_many = e; of_kind = h; segments_are = refl; written = refl }

pub dist_laws : MachineLaws dist_machine
dist_laws = record {
  sound = sound;
  begins_at_start = λ _. refl;
  starts_of_kind = λ _. tt;
  rows = λ k i o. (
    λ row. subst (λ f. Does k at_start (i 0) f (o 0)) (sym row.segments_are) (subst (λ r. Does k at_start (i 0) (flags row.ns) r) (sym row.written) (runs k row.ns (i 0) row.as_many row.of_kind)),
    λ r. row_of (run_is dist_machine k (Owes k) (sound k) (start [] [] refl tt) (earlier k) at_start (columns 2 i) (columns 1 o) r),
  );
}
