-- The worker that counts the elements of segments keeps to the laws of machines.
use Rattle.std.specs.Prelude.{◌≡◌, ◌≤◌, ℕ, zero, suc, ◌+◌, min, ℤ, pos, Bool, true, false, cond, List, [], ◌∷◌, map, Ok, Err, refl}
use Rattle.std.specs.List.{All}
use Rattle.std.proofs.Common.{arith, sym, ap, subst}
use Rattle.std.proofs.Math.Path.{subst₂}
use Rattle.std.proofs.lemmas.Bool.Decides.{nat_tests}
use Rattle.std.proofs.lemmas.List.Elements.{All-nil, All-cons, All-head, All-tail}
use Rattle.snesl_data.specs.declared.dialect.Dialect.{Dialect}
use Rattle.snesl_data.specs.declared.fault.FaultKind.TheVariants.{Overflow}
use Rattle.snesl_data.specs.Integers.{greatest_integer, is_integer, IsInteger}
use Rattle.flow_messages.specs.Cells.{Cell, flag, int}
use Rattle.flow_base.specs.Flags.{F, T, elements, flags}
use Rattle.flow_base.specs.Columns.{Columns, columns, push_column, At}
use Rattle.flow_base.specs.Machines.{MachineLaws, SoundAt, Run, Runs, state_after_item, OnNext, OfNext}
use Rattle.flow_base.specs.MachineRuns.{Then, reading, writing, run_is}
use Rattle.flow_folds.specs.OwnDialect.{own_read, own_write}
use Rattle.flow_folds.specs.Rows.{LengthRow}
use Rattle.flow_folds.specs.declared.length.Count.{Count}
use Rattle.flow_folds.specs.declared.length.Count.TheVariants.{Counting, Due}
use Rattle.flow_folds.specs.LengthMachine.{one_element_more, length_at_end, length_counts, length_move, length_in_range, length_machine}

-- the number of a segment that ended is due in the range
ended_fits : (dialect : Dialect) (n : ℕ) → OfNext (length_at_end dialect n) (length_in_range dialect)
ended_fits dialect n = go (is_integer dialect (pos n)) refl
  where
    go : (b : Bool) → is_integer dialect (pos n) ≡ b → OfNext (cond b (Ok (Due (pos n))) (Err Overflow)) (length_in_range dialect)
    go true e = e
    go false e = tt

ended_any : (dialect : Dialect) (n : ℕ) → OfNext (length_at_end dialect n) (λ _. Unit {0})
ended_any dialect n = go (is_integer dialect (pos n))
  where
    go : (b : Bool) → OfNext (cond b (Ok (Due (pos n))) (Err Overflow)) (λ _. Unit {0})
    go true = tt
    go false = tt

sound : (dialect : Dialect) (s : Count) → SoundAt length_machine dialect s (length_move dialect s)
sound dialect (Counting zero) = (
  refl,
  (
    omega arith,
    refl,
    λ _. (tt, ended_any dialect zero),
    own_read length_in_range dialect (Counting zero) (length_counts dialect zero) (λ _. (tt, ended_fits dialect zero)),
  ),
)
sound dialect (Counting (suc n)) = (
  omega arith,
  refl,
  λ _. (tt, ended_any dialect (suc n)),
  own_read length_in_range dialect (Counting (suc n)) (length_counts dialect (suc n)) (λ _. (tt, ended_fits dialect (suc n))),
)
sound dialect (Due number) = (omega arith, omega arith, λ _. (refl, tt), own_write length_in_range dialect (Due number) (Counting zero) (int number) (λ h. (h, tt)))

-- a segment ends where its number lies in the range, and nowhere else
ended_on : (dialect : Dialect) (n : ℕ) (P : Count → Type 0) → IsInteger dialect (pos n) → P (Due (pos n)) → OnNext (length_at_end dialect n) P
ended_on dialect n P fits h = subst (λ b. OnNext (cond b (Ok (Due (pos n))) (Err Overflow)) P) (sym fits) h

ended_from : (dialect : Dialect) (n : ℕ) (P : Count → Type 0) → OnNext (length_at_end dialect n) P → IsInteger dialect (pos n) × P (Due (pos n))
ended_from dialect n P h = go (is_integer dialect (pos n)) refl h
  where
    go : (b : Bool) → is_integer dialect (pos n) ≡ b → OnNext (cond b (Ok (Due (pos n))) (Err Overflow)) P → IsInteger dialect (pos n) × P (Due (pos n))
    go true e h = (e, h)
    go false e h = absurd h

at_most : (dialect : Dialect) (n : ℕ) → IsInteger dialect (pos n) → n ≤ greatest_integer dialect
at_most dialect n h = grind (arith, nat_tests)

-- where all elements are at most the top, one of them may be counted before or after
counted_on : (n more total top : ℕ) → n + suc more ≡ total → total ≤ top → suc (min n top) + more ≡ total
counted_on n more total top e most = omega arith

counted_back : (n more total top : ℕ) → suc (min n top) + more ≡ total → total ≤ top → n + suc more ≡ total
counted_back n more total top e most = omega arith

-- a flag is read after n elements, in an instance or where one begins
flag_read : (dialect : Dialect) (n k : ℕ) (i o : Columns) →
    At 0 i (λ x r. OnNext (state_after_item (length_counts dialect n) x) (λ s. Run length_machine dialect k s r o)) →
    Run length_machine dialect (suc k) (Counting n) i o
flag_read dialect zero k i o h = h
flag_read dialect (suc n) k i o h = h

abbrev Does : Dialect → Count → List Cell → List Cell → Type 0
Does dialect s f r = Runs length_machine dialect s (f ∷ []) (r ∷ [])

-- the elements that are left of a segment, and then a run, are a run
counts : (dialect : Dialect) (n more total : ℕ) → n + more ≡ total → IsInteger dialect (pos total) → {f r : List Cell} →
    Does dialect (Counting zero) f r → Does dialect (Counting n) (elements more (T ∷ f)) (int (pos total) ∷ r)
counts dialect n zero total e fits {f = f} {r = r} run =
    let same : total ≡ n = omega arith in (
      suc (suc run.0),
      flag_read dialect n (suc run.0) ((T ∷ f) ∷ []) ((int (pos total) ∷ r) ∷ [])
          (ended_on dialect n (λ s. Run length_machine dialect (suc run.0) s (f ∷ []) ((int (pos total) ∷ r) ∷ []))
          (subst (λ k. IsInteger dialect (pos k)) same fits) (ap (λ k. int (pos k)) same, run.1)),
    )
counts dialect n (suc more) total e fits {f = f} {r = r} run =
    let g = counts dialect (one_element_more dialect n) more total (counted_on n more total (greatest_integer dialect) e (at_most dialect total fits)) fits run in
    (suc g.0, flag_read dialect n g.0 (elements (suc more) (T ∷ f) ∷ []) ((int (pos total) ∷ r) ∷ []) g.1)

abbrev Fit : Dialect → List ℕ → Type 0
Fit dialect ns = All (λ n. IsInteger dialect (pos n)) ns

abbrev numbers : List ℕ → List Cell
numbers ns = map (λ n. int (pos n)) ns

runs : (dialect : Dialect) (ns : List ℕ) → Fit dialect ns → Does dialect (Counting zero) (flags ns) (numbers ns)
runs dialect [] h = (zero, (refl, refl))
runs dialect (n ∷ ns) h = counts dialect zero n n (omega arith) (All-head (λ n. IsInteger dialect (pos n)) n ns h) (runs dialect ns (All-tail (λ n. IsInteger dialect (pos n)) n ns h))

-- what a run reads and writes
data Owes (dialect : Dialect) : Count → Columns → Columns → Type 0 where
  start : (ns : List ℕ) → Fit dialect ns → Owes dialect (Counting zero) (flags ns ∷ []) (numbers ns ∷ [])
  counted : (n more total : ℕ) → suc n + more ≡ total → (ns : List ℕ) → Fit dialect (total ∷ ns) → Owes dialect (Counting (suc n)) (elements more (T ∷ flags ns) ∷ []) (numbers (total ∷ ns) ∷ [])
  due : (number : ℤ) {i o : Columns} → Owes dialect (Counting zero) i o → Owes dialect (Due number) i (push_column 0 (int number) o)

before_element : (dialect : Dialect) (n : ℕ) (i o : Columns) → Owes dialect (Counting (one_element_more dialect n)) i o → Owes dialect (Counting n) (push_column 0 F i) o
before_element dialect zero _ _ (counted _ more total e ns h) =
    let same : total ≡ suc more = omega arith in
    subst (λ k. Owes dialect (Counting zero) (elements k (T ∷ flags ns) ∷ []) (numbers (total ∷ ns) ∷ [])) same (start (total ∷ ns) h)
before_element dialect (suc n) _ _ (counted _ more total e ns h) =
    counted n (suc more) total (counted_back (suc n) more total (greatest_integer dialect) e (at_most dialect total (All-head (λ n. IsInteger dialect (pos n)) total ns h))) ns h

before_end : (dialect : Dialect) (n : ℕ) (i o : Columns) → IsInteger dialect (pos n) → Owes dialect (Due (pos n)) i o → Owes dialect (Counting n) (push_column 0 T i) o
before_end dialect zero _ _ fits (due _ (start ns h)) = start (zero ∷ ns) (All-cons (λ n. IsInteger dialect (pos n)) zero ns fits h)
before_end dialect (suc n) _ _ fits (due _ (start ns h)) = counted n zero (suc n) (omega arith) ns (All-cons (λ n. IsInteger dialect (pos n)) (suc n) ns fits h)

ended : (dialect : Dialect) (n : ℕ) (i o : Columns) → OnNext (length_at_end dialect n) (λ next. Owes dialect next i o) → Owes dialect (Counting n) (push_column 0 T i) o
ended dialect n i o h = let g = ended_from dialect n (λ next. Owes dialect next i o) h in before_end dialect n i o g.0 g.1

earlier : (dialect : Dialect) (s : Count) (x : Cell) (i o : Columns) → Then (λ next. Owes dialect next i o) (length_move dialect s) x →
    Owes dialect s (reading (length_move dialect s) x i) (writing (length_move dialect s) o)
earlier dialect (Counting zero) (flag false) i o h = before_element dialect zero i o h
earlier dialect (Counting zero) (flag true) i o h = ended dialect zero i o h
earlier dialect (Counting (suc n)) (flag false) i o h = before_element dialect (suc n) i o h
earlier dialect (Counting (suc n)) (flag true) i o h = ended dialect (suc n) i o h
earlier dialect (Due number) _ _ _ o = due number o
earlier dialect (Counting zero) _ _ _ h = absurd h
earlier dialect (Counting (suc n)) _ _ _ h = absurd h

row_of : {dialect : Dialect} {f r : List Cell} → Owes dialect (Counting zero) (f ∷ []) (r ∷ []) → LengthRow dialect f r
row_of (start ns h) = record { ns = ns; f_is = refl; in_range = h; r_is = refl }

pub length_laws : MachineLaws length_machine
length_laws = record {
  sound = sound;
  begins_at_start = λ _. refl;
  starts_of_kind = λ _. tt;
  rows = λ dialect i o. (
    λ row. subst₂ (Does dialect (Counting zero)) (sym row.f_is) (sym row.r_is) (runs dialect row.ns row.in_range),
    λ r. row_of (run_is length_machine dialect (Owes dialect) (sound dialect) (start [] (All-nil (λ n. IsInteger dialect (pos n)))) (earlier dialect) (Counting zero) (columns 1 i) (columns 1 o) r),
  );
}
