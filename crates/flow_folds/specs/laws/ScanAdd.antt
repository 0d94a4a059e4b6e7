-- The runs of ScanAdd are its row.
use Rattle.std.specs.Prelude.{◌≡◌, ℕ, zero, suc, ℤ, pos, ◌+ℤ◌, true, false, List, [], ◌∷◌, ◌++◌, length, map, Result, Ok, Err, IfOk, refl}
use Rattle.std.proofs.Common.{arith, sym, ◌∙◌, ap, subst}
use Rattle.snesl_data.specs.declared.dialect.Dialect.{Dialect}
use Rattle.snesl_data.specs.declared.dialect.Dialect.TheVariants.{One, Two}
use Rattle.snesl_data.specs.declared.fault.FaultKind.{FaultKind}
use Rattle.snesl_data.specs.Integers.{IsInteger}
use Rattle.snesl_data.specs.operators.Operators.{ranged}
use Rattle.snesl_data.specs.operators.Reductions.{scan_from, and_then}
use Rattle.snesl_data.proofs.OfOperators.OperatorLaws.{ranged_integer}
use Rattle.flow_messages.specs.Cells.{Cell, int, flag}
use Rattle.flow_base.specs.Flags.{T, elements, flags, concatenation}
use Rattle.flow_base.specs.Columns.{Columns, push_column, rows_from}
use Rattle.flow_base.specs.Machines.{on_flag, on_int, MachineLaws, SoundAt, OnNext, OfNext, Run, Runs}
use Rattle.flow_base.specs.MachineRuns.{Then, reading, writing, run_is}
use Rattle.flow_folds.specs.OwnDialect.{own_read, own_write}
use Rattle.flow_folds.specs.Rows.{Scanned, scan_add_reads, scan_add_writes}
use Rattle.flow_folds.specs.ScanAddMachine.{after_sum, scan_add_move, scan_add_in_range, scan_add_machine}
use Rattle.flow_folds.specs.declared.scan_add.Stage.{Stage}
use Rattle.flow_folds.specs.declared.scan_add.Stage.TheVariants.{Start, Flag, Element, Write}

-- a sum in front of those that come after it
abbrev and_sums : ℤ → Result (List ℤ) FaultKind → Result (List ℤ) FaultKind
and_sums so_far others = and_then others (λ sums. Ok (so_far ∷ sums))

-- the sums of these elements after a sum that is still to be made
abbrev sums_after : Dialect → Result ℤ FaultKind → List ℤ → Result (List ℤ) FaultKind
sums_after dialect before xs = and_then before (λ sum. scan_from dialect sum xs)

-- the first running sum is the sum so far
first_sum : (dialect : Dialect) (so_far x : ℤ) (xs sums : List ℤ) → scan_from dialect so_far (x ∷ xs) ≡ Ok sums → (others : List ℤ) × (sums ≡ so_far ∷ others)
first_sum dialect so_far x [] sums e = let same : sums ≡ so_far ∷ [] = cc in ([], same)
first_sum dialect so_far x (y ∷ xs) sums e = go (ranged dialect (so_far +ℤ x)) e
  where
    behind : (others : Result (List ℤ) FaultKind) → and_sums so_far others ≡ Ok sums → (others : List ℤ) × (sums ≡ so_far ∷ others)
    behind (Ok others) e = let same : sums ≡ so_far ∷ others = cc in (others, same)
    behind (Err kind) e = absurd (cc)

    go : (sum : Result ℤ FaultKind) → and_then sum (λ next. and_sums so_far (scan_from dialect next (y ∷ xs))) ≡ Ok sums → (others : List ℤ) × (sums ≡ so_far ∷ others)
    go (Ok sum) e = behind (scan_from dialect sum (y ∷ xs)) e
    go (Err kind) e = absurd (cc)

-- the sums after the first are those after the next sum
sums_behind : (dialect : Dialect) (so_far : ℤ) (sum : Result ℤ FaultKind) (xs sums : List ℤ) →
    and_then sum (λ next. and_sums so_far (scan_from dialect next xs)) ≡ Ok (so_far ∷ sums) → sums_after dialect sum xs ≡ Ok sums
sums_behind dialect so_far (Ok sum) xs sums e = go (scan_from dialect sum xs) e
  where
    go : (others : Result (List ℤ) FaultKind) → and_sums so_far others ≡ Ok (so_far ∷ sums) → others ≡ Ok sums
    go (Ok others) e = let same : others ≡ sums = cc in ap Ok same
    go (Err kind) e = absurd (cc)
sums_behind dialect so_far (Err kind) xs sums e = absurd (cc)

-- and with the first in front
sums_before : (dialect : Dialect) (so_far : ℤ) (sum : Result ℤ FaultKind) (xs sums : List ℤ) → sums_after dialect sum xs ≡ Ok sums →
    and_then sum (λ next. and_sums so_far (scan_from dialect next xs)) ≡ Ok (so_far ∷ sums)
sums_before dialect so_far (Ok sum) xs sums e = ap (and_sums so_far) e
sums_before dialect so_far (Err kind) xs sums e = absurd (cc)

-- what holds after each sum that is no fault, holds of what an element leads to
after : (P : Stage → Type 0) (Q : ℤ → Type 0) (before : Result ℤ FaultKind) (n : ℤ) → IfOk before Q → ((sum : ℤ) → Q sum → P (Write sum n)) → OfNext (after_sum before n) P
after P Q (Ok sum) n h f = f sum h
after P Q (Err kind) n h f = tt

-- 0 is an integer of each dialect
zero_integer : (dialect : Dialect) → IsInteger dialect (pos 0)
zero_integer One = refl
zero_integer Two = refl

-- and so the sum of two of them is 0
zero_sum : (dialect : Dialect) → ranged dialect (pos 0 +ℤ pos 0) ≡ Ok (pos 0)
zero_sum One = refl
zero_sum Two = refl

-- the table keeps to its laws
sound : (dialect : Dialect) (s : Stage) → SoundAt scan_add_machine dialect s (scan_add_move dialect s)
sound dialect Start = (
  refl,
  (
    omega arith,
    refl,
    λ _. (tt, tt),
    own_read scan_add_in_range dialect Start (on_flag (Ok (Element (pos 0) (pos 0))) (Ok Start))
        (λ _. ((zero_integer dialect, zero_integer dialect), tt)),
  ),
)
sound dialect (Flag before last) = (omega arith, refl, λ _. (tt, tt), own_read scan_add_in_range dialect (Flag before last) (on_flag (Ok (Element before last)) (Ok Start)) (λ h. (h, tt)))
sound dialect (Element before last) =
    let sum = ranged_integer dialect (before +ℤ last) in (
      omega arith,
      refl,
      λ _ n. after (λ _. Unit {0}) (IsInteger dialect) (ranged dialect (before +ℤ last)) n sum (λ _ _. tt),
      own_read scan_add_in_range dialect (Element before last) (on_int (after_sum (ranged dialect (before +ℤ last))))
          (λ _ n h. after (scan_add_in_range dialect) (IsInteger dialect) (ranged dialect (before +ℤ last)) n sum (λ _ g. (g, h))),
    )
sound dialect (Write before last) = (omega arith, omega arith, λ _. (refl, tt), own_write scan_add_in_range dialect (Write before last) (Flag before last) (int before) (λ h. (h.0, h)))

-- a run from this state reads flags and integers and writes sums
abbrev Does : Dialect → Stage → List Cell → List Cell → List Cell → Type 0
Does dialect s f a r = Runs scan_add_machine dialect s (f ∷ a ∷ []) (r ∷ [])

-- at a flag within a segment, these elements that are left, and then what comes after the segment, are a run
abbrev FlagRuns : Dialect → List Cell → List Cell → List Cell → List ℤ → Type 0
FlagRuns dialect f a r xs = (before last : ℤ) (sums : List ℤ) → scan_from dialect before (last ∷ xs) ≡ Ok (before ∷ sums) →
    Does dialect (Flag before last) (elements (length xs) (T ∷ f)) (map int xs ++ a) (map int sums ++ r)

-- so they are with an element before them
element_runs : (dialect : Dialect) (x : ℤ) (xs : List ℤ) (f a r : List Cell) → FlagRuns dialect f a r xs → (before last : ℤ) (sums : List ℤ) →
    sums_after dialect (ranged dialect (before +ℤ last)) (x ∷ xs) ≡ Ok sums →
    Does dialect (Element before last) (elements (length xs) (T ∷ f)) (int x ∷ (map int xs ++ a)) (map int sums ++ r)
element_runs dialect x xs f a r others before last sums e = let k = go (ranged dialect (before +ℤ last)) e in (suc k.0, k.1)
  where
    go : (sum : Result ℤ FaultKind) → sums_after dialect sum (x ∷ xs) ≡ Ok sums → (n : ℕ)
        × OnNext (after_sum sum x)
        (λ s. Run scan_add_machine dialect n s (elements (length xs) (T ∷ f) ∷ (map int xs ++ a) ∷ []) ((map int sums ++ r) ∷ []))
    go (Ok sum) e =
        let first = first_sum dialect sum x xs sums e in
        let k = others sum x first.0 (e ∙ ap Ok first.1) in
        subst (λ l. Does dialect (Write sum x) (elements (length xs) (T ∷ f)) (map int xs ++ a) (map int l ++ r)) (sym first.1) (suc k.0, (refl, k.1))
    go (Err kind) e = absurd (cc)

flag_runs : (dialect : Dialect) (xs : List ℤ) (f a r : List Cell) → Does dialect Start f a r → FlagRuns dialect f a r xs
flag_runs dialect [] f a r run = λ before last sums e. let none : [] ≡ sums = cc in subst (λ l. Does dialect (Flag before last) (T ∷ f) a (map int l ++ r)) none (suc run.0, run.1)
flag_runs dialect (x ∷ xs) f a r run = λ before last sums e. let k =
    element_runs dialect x xs f a r (flag_runs dialect xs f a r run) before last sums
    (sums_behind dialect before (ranged dialect (before +ℤ last)) (x ∷ xs) sums e) in (suc k.0, k.1)

-- the flags, the integers and the sums of these groups
abbrev flags_of : (dialect : Dialect) → List (Scanned dialect) → List Cell
flags_of dialect groups = flags (map (λ g. length g.0) groups)

abbrev integers_of : (dialect : Dialect) → List (Scanned dialect) → List Cell
integers_of dialect groups = concatenation (map (λ g. map int g.0) groups)

abbrev sums_of : (dialect : Dialect) → List (Scanned dialect) → List Cell
sums_of dialect groups = concatenation (map (λ g. map int g.1) groups)

-- the row is a run
runs : (dialect : Dialect) (groups : List (Scanned dialect)) → Runs scan_add_machine dialect Start (scan_add_reads dialect groups) (scan_add_writes dialect groups)
runs dialect [] = (zero, (refl, refl))
runs dialect (([], sums, e) ∷ groups) =
    let none : [] ≡ sums = cc in
    let run = runs dialect groups in
    subst (λ l. Does dialect Start (T ∷ flags_of dialect groups) (integers_of dialect groups) (map int l ++ sums_of dialect groups)) none (suc run.0, run.1)
runs dialect ((x ∷ xs, sums, e) ∷ groups) =
    let k = element_runs dialect x xs (flags_of dialect groups) (integers_of dialect groups) (sums_of dialect groups)
    (flag_runs dialect xs (flags_of dialect groups) (integers_of dialect groups) (sums_of dialect groups) (runs dialect groups)) (pos 0) (pos 0)
    sums (ap (λ z. sums_after dialect z (x ∷ xs)) (zero_sum dialect) ∙ e) in
    (suc k.0, k.1)

-- what a run reads and writes
data Owes (dialect : Dialect) : Stage → Columns → Columns → Type 0 where
  start : (groups : List (Scanned dialect)) → Owes dialect Start (scan_add_reads dialect groups) (scan_add_writes dialect groups)
  flagged : (before last : ℤ) (xs sums : List ℤ) → scan_from dialect before (last ∷ xs) ≡ Ok (before ∷ sums) → (groups : List (Scanned dialect)) →
      Owes dialect (Flag before last) (elements (length xs) (T ∷ flags_of dialect groups) ∷ (map int xs ++ integers_of dialect groups) ∷ []) ((map int sums ++ sums_of dialect groups) ∷ [])
  element : (before last x : ℤ) (xs sums : List ℤ) → sums_after dialect (ranged dialect (before +ℤ last)) (x ∷ xs) ≡ Ok sums → (groups : List (Scanned dialect)) →
      Owes dialect (Element before last)
      (elements (length xs) (T ∷ flags_of dialect groups) ∷ (int x ∷ (map int xs ++ integers_of dialect groups)) ∷ [])
      ((map int sums ++ sums_of dialect groups) ∷ [])
  written : (before last : ℤ) {i o : Columns} → Owes dialect (Flag before last) i o → Owes dialect (Write before last) i (push_column 0 (int before) o)

-- an element, and what is owed after its sum
one_more : (dialect : Dialect) (before last n : ℤ) (sum : Result ℤ FaultKind) → ranged dialect (before +ℤ last) ≡ sum → (i o : Columns) →
    OnNext (after_sum sum n) (λ next. Owes dialect next i o) → Owes dialect (Element before last) (push_column 1 (int n) i) o
one_more dialect before last n (Ok sum) is _ _ (written _ _ (flagged _ _ xs sums e groups)) = element before last n xs (sum ∷ sums) (ap (λ z. sums_after dialect z (n ∷ xs)) is ∙ e) groups
one_more dialect before last n (Err kind) is i o h = absurd h

-- what the next state owes, and the step before it
earlier : (dialect : Dialect) (s : Stage) (x : Cell) (i o : Columns) → Then (λ next. Owes dialect next i o) (scan_add_move dialect s) x →
    Owes dialect s (reading (scan_add_move dialect s) x i) (writing (scan_add_move dialect s) o)
earlier dialect Start (flag false) _ _ (element _ _ x xs sums e groups) = start ((x ∷ xs, sums, ap (λ z. sums_after dialect z (x ∷ xs)) (sym (zero_sum dialect)) ∙ e) ∷ groups)
earlier dialect Start (flag true) _ _ (start groups) = start (([], [], refl) ∷ groups)
earlier dialect (Flag before last) (flag false) _ _ (element _ _ x xs sums e groups) =
    flagged before last (x ∷ xs) sums (sums_before dialect before (ranged dialect (before +ℤ last)) (x ∷ xs) sums e) groups
earlier dialect (Flag before last) (flag true) _ _ (start groups) = flagged before last [] [] refl groups
earlier dialect (Element before last) (int n) i o h = one_more dialect before last n (ranged dialect (before +ℤ last)) refl i o h
earlier dialect (Write before last) _ _ _ h = written before last h
earlier dialect (Flag before last) _ _ _ h = absurd h
earlier dialect (Element before last) _ _ _ h = absurd h
earlier dialect _ _ _ _ h = absurd h

-- what is owed between two groups is the row
whole : {dialect : Dialect} {i o : Columns} → Owes dialect Start i o → (groups : List (Scanned dialect)) × (i ≡ scan_add_reads dialect groups) × (o ≡ scan_add_writes dialect groups)
whole (start groups) = (groups, refl, refl)

pub scan_add_laws : MachineLaws scan_add_machine
scan_add_laws = record {
  sound = sound;
  begins_at_start = λ _. refl;
  starts_of_kind = λ _. tt;
  rows = λ dialect. rows_from (scan_add_reads dialect) (scan_add_writes dialect) (Runs scan_add_machine dialect Start) (runs dialect)
      (λ i o r. whole (run_is scan_add_machine dialect (Owes dialect) (sound dialect) (start []) (earlier dialect) Start i o r)) 2 1;
}
