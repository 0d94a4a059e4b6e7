-- Rows, their names, and their number.
use Rattle.std.proofs.Common.{◌≡◌, ℕ, List, [], ◌∷◌, ◌++◌, Bool, true, false, length, map, Option, Some, None, slice_get, if◌then◌else◌, ◌==◌, ◌&&◌}
use Rattle.std.proofs.Common.{◌<◌, zero, suc, drop, replicate, option_map, refl, sym, ap, ◌∙◌, arith}
use Rattle.std.specs.List.{cons_option, list_all}
use Rattle.std.proofs.lemmas.Bool.{eqb-true}
use Rattle.std.specs.Str.{bytes_eq}
use Rattle.std.proofs.lemmas.List.{length-map}
use Rattle.snesl_data.specs.declared.fault.FaultKind.TheVariants.{Length}
use Rattle.snesl_values.specs.Inputs.{Environment, value_in}
use Rattle.snesl_data.specs.Values.{Value, value_of}
use Rattle.snesl_evaluation.specs.declared.scope.Column.{Column}
use Rattle.snesl_evaluation.specs.Answer.{gives, faults}
use Rattle.snesl_evaluation.specs.Eval.{BoundItems, beside, height, rows_of, in_step}
use Rattle.snesl_evaluation.specs.Scopes.{are_level, bound_items_of, first_height, names_at}

pub value_in-some : (bytes : List ℕ) (front back : Environment) (v : Value) → value_in bytes front ≡ Some v → value_in bytes (front ++ back) ≡ Some v
value_in-some bytes [] back v e = cc
value_in-some bytes (entry ∷ front) back v e = by_test (bytes_eq bytes entry.0) e (value_in-some bytes front back v)
  where
    by_test : (t : Bool) → (if t then Some entry.1 else value_in bytes front) ≡ Some v → (value_in bytes front ≡ Some v → value_in bytes (front ++ back) ≡ Some v)
        → (if t then Some entry.1 else value_in bytes (front ++ back)) ≡ Some v
    by_test true f h = f
    by_test false f h = h f

pub value_in-none : (bytes : List ℕ) (front back : Environment) → value_in bytes front ≡ None → value_in bytes (front ++ back) ≡ value_in bytes back
value_in-none bytes [] back e = refl
value_in-none bytes (entry ∷ front) back e = by_test (bytes_eq bytes entry.0) e (value_in-none bytes front back)
  where
    by_test : (t : Bool) → (if t then Some entry.1 else value_in bytes front) ≡ None → (value_in bytes front ≡ None → value_in bytes (front ++ back) ≡ value_in bytes back)
        → (if t then Some entry.1 else value_in bytes (front ++ back)) ≡ value_in bytes back
    by_test true f h = cc
    by_test false f h = h f

-- the first column of a row, where it has the name and where not
pub in_column-some : (bytes : List ℕ) (index : ℕ) (column : List ℕ × List Value) (columns : BoundItems) (v : Value)
    → (if bytes_eq bytes column.0 then slice_get column.1 index else None) ≡ Some v → value_in bytes (names_at index (column ∷ columns)) ≡ Some v
in_column-some bytes index column columns v e = by_cell (slice_get column.1 index) refl (bytes_eq bytes column.0) refl e
  where
    by_cell : (o : Option Value) → slice_get column.1 index ≡ o → (t : Bool) → bytes_eq bytes column.0 ≡ t
        → (if t then o else None) ≡ Some v → value_in bytes (names_at index (column ∷ columns)) ≡ Some v
    by_cell (Some w) o true t f = rw o (rw t f)
    by_cell o p false t f = cc
    by_cell None p true t f = cc

pub in_column-none : (bytes : List ℕ) (index : ℕ) (column : List ℕ × List Value) (columns : BoundItems)
    → (if bytes_eq bytes column.0 then slice_get column.1 index else None) ≡ None → value_in bytes (names_at index (column ∷ columns)) ≡ value_in bytes (names_at index columns)
in_column-none bytes index column columns e = by_cell (slice_get column.1 index) refl (bytes_eq bytes column.0) refl e
  where
    by_cell : (o : Option Value) → slice_get column.1 index ≡ o → (t : Bool) → bytes_eq bytes column.0 ≡ t
        → (if t then o else None) ≡ None → value_in bytes (names_at index (column ∷ columns)) ≡ value_in bytes (names_at index columns)
    by_cell None o t p f = rw o refl
    by_cell (Some w) o false t f = rw o (rw t refl)
    by_cell (Some w) o true t f = cc

height_seen : (text : List ℕ) (columns : List Column) → height (map (bound_items_of text) columns) ≡ first_height columns
height_seen text [] = refl
height_seen text (column ∷ columns) = length-map column.items.items value_of

pub level_seen : (text : List ℕ) (n : ℕ) (columns : List Column) → list_all (λ column. length column.1 == n) (map (bound_items_of text) columns) ≡ are_level n columns
level_seen text n [] = refl
level_seen text n (column ∷ columns) =
    ap (λ m. m == n && list_all (λ other. length other.1 == n) (map (bound_items_of text) columns)) (length-map column.items.items value_of)
    ∙ ap (λ b. length column.items.items == n && b) (level_seen text n columns)

pub in_step_seen : (at : ℕ) (text : List ℕ) (columns : List Column) (n : ℕ) (b : Bool) → n ≡ first_height columns → b ≡ are_level n columns
    → in_step at (map (bound_items_of text) columns) ≡ (if b then gives (rows_of n (map (bound_items_of text) columns)) else faults Length at)
in_step_seen at text columns n b tall level =
    let seen = map (bound_items_of text) columns in
    ap (λ m. if list_all (λ column. length column.1 == m) seen then gives (rows_of m seen) else faults Length at) (height_seen text columns ∙ sym tall)
    ∙ ap (λ t. if t then gives (rows_of n seen) else faults Length at) (level_seen text n columns ∙ sym level)

-- whether all columns have this length
abbrev pub is_level : ℕ → BoundItems → Bool
is_level n columns = list_all (λ column. length column.1 == n) columns

abbrev nothing : Environment
nothing = []

drop_empty : (n i : ℕ) → i < n → drop i (replicate n nothing) ≡ nothing ∷ drop (suc i) (replicate n nothing)
drop_empty zero i l = absurd (omega arith)
drop_empty (suc n) zero l = refl
drop_empty (suc n) (suc i) l = drop_empty n i (omega arith)

drop_beside : (bytes : List ℕ) (vs : List Value) (rows : List Environment) (i : ℕ) (v : Value) (row : Environment)
    → slice_get vs i ≡ Some v → drop i rows ≡ row ∷ drop (suc i) rows → drop i (beside bytes vs rows) ≡ ((bytes, v) ∷ row) ∷ drop (suc i) (beside bytes vs rows)
drop_beside bytes [] rows i v row e f = cc
drop_beside bytes (w ∷ vs) [] zero v row e f = cc
drop_beside bytes (w ∷ vs) [] (suc i) v row e f = cc
drop_beside bytes (w ∷ vs) (r ∷ rows) zero v row e f =
    let same : w ≡ v = cc in
    let first : r ≡ row = cc in
    ap (λ x. ((bytes, x) ∷ r) ∷ beside bytes vs rows) same ∙ ap (λ x. ((bytes, v) ∷ x) ∷ beside bytes vs rows) first
drop_beside bytes (w ∷ vs) (r ∷ rows) (suc i) v row e f = drop_beside bytes vs rows i v row e f

both_true : (a b : Bool) → (a && b) ≡ true → (a ≡ true) × (b ≡ true)
both_true true b e = (refl, e)
both_true false b e = cc

slice_get-exists : (vs : List Value) (i : ℕ) → i < length vs → (v : Value) × (slice_get vs i ≡ Some v)
slice_get-exists [] i l = absurd (omega arith)
slice_get-exists (v ∷ vs) zero l = (v, refl)
slice_get-exists (v ∷ vs) (suc i) l = slice_get-exists vs i (omega arith)

-- the rows from an index on
pub drop_rows : (n : ℕ) (columns : BoundItems) (i : ℕ) → is_level n columns ≡ true → i < n → drop i (rows_of n columns) ≡ names_at i columns ∷ drop (suc i) (rows_of n columns)
drop_rows n [] i level l = drop_empty n i l
drop_rows n (column ∷ columns) i level l =
    let h = both_true (length column.1 == n) (is_level n columns) level in
    let tall : length column.1 ≡ n = eqb-true _ _ h.0 in
    by_item (slice_get column.1 i) refl (slice_get-exists column.1 i (omega arith)) (drop_rows n columns i h.1 l)
  where
    by_item : (o : Option Value) → slice_get column.1 i ≡ o → (v : Value) × (slice_get column.1 i ≡ Some v) → drop i (rows_of n columns) ≡ names_at i columns ∷ drop (suc i) (rows_of n columns)
        → drop i (rows_of n (column ∷ columns)) ≡ names_at i (column ∷ columns) ∷ drop (suc i) (rows_of n (column ∷ columns))
    by_item o p (v, e) f =
        drop_beside column.0 column.1 (rows_of n columns) i v (names_at i columns) e f
        ∙ ap (λ q. cons_option (option_map (λ w. (column.0, w)) q) (names_at i columns) ∷ drop (suc i) (rows_of n (column ∷ columns))) (sym e)

beside_none : (bytes : List ℕ) (vs : List Value) (rows : List Environment) (i : ℕ) → drop i rows ≡ [] → drop i (beside bytes vs rows) ≡ []
beside_none bytes [] rows zero e = refl
beside_none bytes [] rows (suc i) e = refl
beside_none bytes (v ∷ vs) [] zero e = refl
beside_none bytes (v ∷ vs) [] (suc i) e = refl
beside_none bytes (v ∷ vs) (row ∷ rows) zero e = cc
beside_none bytes (v ∷ vs) (row ∷ rows) (suc i) e = beside_none bytes vs rows i e

empty_none : (n : ℕ) → drop n (replicate n nothing) ≡ []
empty_none zero = refl
empty_none (suc n) = empty_none n

-- no row is left after the last
pub no_rows : (n : ℕ) (columns : BoundItems) → drop n (rows_of n columns) ≡ []
no_rows n [] = empty_none n
no_rows n (column ∷ columns) = beside_none column.0 column.1 (rows_of n columns) n (no_rows n columns)
