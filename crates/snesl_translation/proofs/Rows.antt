-- The rows of comprehensions at many instances.
use Rattle.std.specs.Prelude.{◌≡◌, ℕ, zero, suc, Bool, true, false, ◌&&◌, ◌==◌, List, [], ◌∷◌, ◌++◌, map, length, replicate, zip, Option, Some, option_map, if◌then◌else◌, refl}
use Rattle.std.specs.List.{list_all}
use Rattle.std.proofs.Common.{arith, sym, ap, ◌∙◌}
use Rattle.std.proofs.Math.Path.{ap₂}
use Rattle.std.proofs.lemmas.Bool.{and_parts, eqb-true}
use Rattle.snesl_data.specs.declared.fault.FaultKind.TheVariants.{Length}
use Rattle.snesl_data.specs.Values.{Value}
use Rattle.snesl_values.specs.Inputs.{Environment}
use Rattle.snesl_evaluation.specs.Answer.{gives, faults}
use Rattle.snesl_evaluation.specs.Eval.{BoundItems, height, beside, rows_of, in_step}
use Rattle.flow_base.specs.Flags.{concatenation, lengths}
use Rattle.flow_nodes.specs.functions.Lists.{bind, only_if, each, same_lists, paired, copied, dist}
use Rattle.snesl_translation.specs.Carrying.{given_by}
use Rattle.snesl_translation.specs.Sources.{with_sequences}
use Rattle.snesl_translation.proofs.Bindings.{with_name}

-- whether all columns have this height
abbrev pub fits : ℕ → BoundItems → Bool
fits n columns = list_all (λ column. length column.1 == n) columns

-- the same at each instance
abbrev pub all_fit : List ℕ → List BoundItems → Bool
all_fit [] [] = true
all_fit (n ∷ ns) (columns ∷ all) = fits n columns && all_fit ns all
all_fit _ _ = false

-- the rows of each instance
abbrev pub rows_each : List ℕ → List BoundItems → List (List Environment)
rows_each (n ∷ ns) (columns ∷ all) = rows_of n columns ∷ rows_each ns all
rows_each _ _ = []

-- the instances inside of each instance: what the row says stands before what is known outside
abbrev pub inner_instances : List ℕ → List BoundItems → List Environment → List (List Environment)
inner_instances ns all environments = map (λ p. map (λ row. row ++ p.0) p.1) (zip environments (rows_each ns all))

-- where all columns have one height

in_step_gives : (at : ℕ) (columns : BoundItems) → given_by (in_step at columns) ≡ only_if (fits (height columns) columns) (rows_of (height columns) columns)
in_step_gives at columns = by_case (fits (height columns) columns)
  where
    by_case : (b : Bool) → given_by (if b then gives (rows_of (height columns) columns) else faults Length at) ≡ only_if b (rows_of (height columns) columns)
    by_case true = refl
    by_case false = refl

pub all_in_step : (at : ℕ) (all : List BoundItems) → each (λ columns. given_by (in_step at columns)) all ≡ only_if (all_fit (map height all) all) (rows_each (map height all) all)
all_in_step at [] = refl
all_in_step at (columns ∷ all) =
    ap₂ (λ (o : Option (List Environment)) (p : Option (List (List Environment))). bind o (λ y. option_map (λ ys. y ∷ ys) p)) (in_step_gives at columns) (all_in_step at all)
    ∙ by_case (fits (height columns) columns) (all_fit (map height all) all)
  where
    by_case : (b c : Bool) → bind (only_if b (rows_of (height columns) columns)) (λ y. option_map (λ ys. y ∷ ys) (only_if c (rows_each (map height all) all)))
        ≡ only_if (b && c) (rows_of (height columns) columns ∷ rows_each (map height all) all)
    by_case true true = refl
    by_case true false = refl
    by_case false c = refl

-- one column more

pub heights_with : (name : List ℕ) (groups : List (List Value)) (all : List BoundItems) → length groups ≡ length all → map height (with_sequences name groups all) ≡ lengths groups
heights_with name [] [] e = refl
heights_with name [] (columns ∷ all) e = absurd (omega (arith))
heights_with name (g ∷ groups) [] e = absurd (omega (arith))
heights_with name (g ∷ groups) (columns ∷ all) e = ap (λ ns. length g ∷ ns) (heights_with name groups all (omega (arith)))

pub with_column_length : (name : List ℕ) (groups : List (List Value)) (all : List BoundItems) → length groups ≡ length all → length (with_sequences name groups all) ≡ length groups
with_column_length name [] [] e = refl
with_column_length name [] (columns ∷ all) e = absurd (omega (arith))
with_column_length name (g ∷ groups) [] e = absurd (omega (arith))
with_column_length name (g ∷ groups) (columns ∷ all) e = ap suc (with_column_length name groups all (omega (arith)))

swap_and : (a b c d : Bool) → (a && b) && (c && d) ≡ (a && c) && (b && d)
swap_and true true c d = refl
swap_and true false true d = refl
swap_and true false false d = refl
swap_and false b c d = refl

pub fits_with : (name : List ℕ) (ns : List ℕ) (groups : List (List Value)) (all : List BoundItems) → length groups ≡ length all → length groups ≡ length ns
    → all_fit ns (with_sequences name groups all) ≡ (same_lists ◌==◌ (lengths groups) ns && all_fit ns all)
fits_with name [] [] [] e f = refl
fits_with name (n ∷ ns) (g ∷ groups) (columns ∷ all) e f =
    ap (λ b. (length g == n && fits n columns) && b) (fits_with name ns groups all (omega (arith)) (omega (arith)))
    ∙ swap_and (length g == n) (fits n columns) (same_lists ◌==◌ (lengths groups) ns) (all_fit ns all)
fits_with name [] [] (columns ∷ all) e f = absurd (omega (arith))
fits_with name [] (g ∷ groups) all e f = absurd (omega (arith))
fits_with name (n ∷ ns) [] all e f = absurd (omega (arith))
fits_with name (n ∷ ns) (g ∷ groups) [] e f = absurd (omega (arith))

pub fit_length : (ns : List ℕ) (all : List BoundItems) → all_fit ns all ≡ true → length ns ≡ length all
fit_length [] [] e = refl
fit_length [] (columns ∷ all) e = absurd (cc)
fit_length (n ∷ ns) [] e = absurd (cc)
fit_length (n ∷ ns) (columns ∷ all) e = ap suc (fit_length ns all (and_parts (fits n columns) (all_fit ns all) e).1)

pub empty_fit : (ns : List ℕ) (all : List BoundItems) → all ≡ replicate (length all) [] → length all ≡ length ns → all_fit ns all ≡ true
empty_fit [] [] e f = refl
empty_fit [] (columns ∷ all) e f = absurd (omega (arith))
empty_fit (n ∷ ns) [] e f = absurd (omega (arith))
empty_fit (n ∷ ns) (columns ∷ all) e f =
    let here : columns ≡ [] = cc in
    let there : all ≡ replicate (length all) [] = cc in
    ap (λ c. fits n c && all_fit ns all) here ∙ empty_fit ns all there (omega (arith))

-- how many rows

length_copies : {A : Type 0} (n : ℕ) (x : A) → length (replicate n x) ≡ n
length_copies zero x = refl
length_copies (suc n) x = ap suc (length_copies n x)

length_same : {A B : Type 0} (f : A → B) (xs : List A) → length (map f xs) ≡ length xs
length_same f [] = refl
length_same f (x ∷ xs) = ap suc (length_same f xs)

beside_length : (name : List ℕ) (vs : List Value) (rows : List Environment) → length vs ≡ length rows → length (beside name vs rows) ≡ length rows
beside_length name [] [] e = refl
beside_length name [] (row ∷ rows) e = absurd (omega (arith))
beside_length name (v ∷ vs) [] e = absurd (omega (arith))
beside_length name (v ∷ vs) (row ∷ rows) e = ap suc (beside_length name vs rows (omega (arith)))

rows_length : (n : ℕ) (columns : BoundItems) → fits n columns ≡ true → length (rows_of n columns) ≡ n
rows_length n [] e = length_copies n []
rows_length n (column ∷ columns) e =
    let p = and_parts (length column.1 == n) (fits n columns) e in
    let rest = rows_length n columns p.1 in
    beside_length column.0 column.1 (rows_of n columns) (eqb-true (length column.1) n p.0 ∙ sym rest) ∙ rest

pub inner_lengths : (ns : List ℕ) (all : List BoundItems) (environments : List Environment) → all_fit ns all ≡ true → length ns ≡ length environments
    → lengths (inner_instances ns all environments) ≡ ns
inner_lengths [] [] [] e f = refl
inner_lengths [] [] (environment ∷ environments) e f = absurd (omega (arith))
inner_lengths [] (columns ∷ all) environments e f = absurd (cc)
inner_lengths (n ∷ ns) [] environments e f = absurd (cc)
inner_lengths (n ∷ ns) (columns ∷ all) [] e f = absurd (omega (arith))
inner_lengths (n ∷ ns) (columns ∷ all) (environment ∷ environments) e f =
    let p = and_parts (fits n columns) (all_fit ns all) e in
    ap₂ (λ n ns. n ∷ ns) (length_same (λ row. row ++ environment) (rows_of n columns) ∙ rows_length n columns p.0) (inner_lengths ns all environments p.1 (omega (arith)))

-- without columns each instance as often as its number

same_rows : (n : ℕ) (environment : Environment) → map (λ (row : Environment). row ++ environment) (replicate n []) ≡ replicate n environment
same_rows zero environment = refl
same_rows (suc n) environment = ap (λ l. environment ∷ l) (same_rows n environment)

pub plain_instances : (ns : List ℕ) (all : List BoundItems) (environments : List Environment) → all ≡ replicate (length all) [] → length ns ≡ length all → length ns ≡ length environments
    → concatenation (inner_instances ns all environments) ≡ copied (zip ns environments)
plain_instances [] [] [] e f g = refl
plain_instances [] [] (environment ∷ environments) e f g = absurd (omega (arith))
plain_instances [] (columns ∷ all) environments e f g = absurd (omega (arith))
plain_instances (n ∷ ns) [] environments e f g = absurd (omega (arith))
plain_instances (n ∷ ns) (columns ∷ all) [] e f g = absurd (omega (arith))
plain_instances (n ∷ ns) (columns ∷ all) (environment ∷ environments) e f g =
    let here : columns ≡ [] = cc in
    let there : all ≡ replicate (length all) [] = cc in
    ap₂ (λ l m. l ++ m) (ap (λ c. map (λ row. row ++ environment) (rows_of n c)) here ∙ same_rows n environment) (plain_instances ns all environments there (omega (arith)) (omega (arith)))

paired_zip : {A : Type 0} (ns : List ℕ) (xs : List A) → length ns ≡ length xs → paired ns xs ≡ Some (zip ns xs)
paired_zip [] [] e = refl
paired_zip [] (x ∷ xs) e = absurd (omega (arith))
paired_zip (n ∷ ns) [] e = absurd (omega (arith))
paired_zip (n ∷ ns) (x ∷ xs) e = ap (option_map (λ ps. (n, x) ∷ ps)) (paired_zip ns xs (omega (arith)))

pub dist_zip : {A : Type 0} (ns : List ℕ) (xs : List A) → length ns ≡ length xs → dist ns xs ≡ Some (copied (zip ns xs))
dist_zip ns xs e = ap (option_map copied) (paired_zip ns xs e)

-- with one column more the same instances, where its name has one more value at each

beside_rows : (name : List ℕ) (vs : List Value) (rows : List Environment) (environment : Environment)
    → map (λ row. row ++ environment) (beside name vs rows) ≡ with_name name (map (λ row. row ++ environment) rows) vs
beside_rows name [] [] environment = refl
beside_rows name [] (row ∷ rows) environment = refl
beside_rows name (v ∷ vs) [] environment = refl
beside_rows name (v ∷ vs) (row ∷ rows) environment = ap (λ l. ((name, v) ∷ (row ++ environment)) ∷ l) (beside_rows name vs rows environment)

with_name_append : (name : List ℕ) (first second : List Environment) (vs ws : List Value) → length first ≡ length vs →
    with_name name (first ++ second) (vs ++ ws) ≡ with_name name first vs ++ with_name name second ws
with_name_append name [] second [] ws e = refl
with_name_append name [] second (v ∷ vs) ws e = absurd (omega (arith))
with_name_append name (a ∷ first) second [] ws e = absurd (omega (arith))
with_name_append name (a ∷ first) second (v ∷ vs) ws e = ap (λ l. ((name, v) ∷ a) ∷ l) (with_name_append name first second vs ws (omega (arith)))

pub instances_with : (name : List ℕ) (ns : List ℕ) (groups : List (List Value)) (all : List BoundItems) (environments : List Environment)
    → lengths groups ≡ ns → all_fit ns all ≡ true → length ns ≡ length environments
    → concatenation (inner_instances ns (with_sequences name groups all) environments) ≡ with_name name (concatenation (inner_instances ns all environments)) (concatenation groups)
instances_with name [] [] [] [] e f g = refl
instances_with name [] [] [] (environment ∷ environments) e f g = absurd (omega (arith))
instances_with name [] [] (columns ∷ all) environments e f g = absurd (cc)
instances_with name [] (group ∷ groups) all environments e f g = absurd (cc)
instances_with name (n ∷ ns) [] all environments e f g = absurd (cc)
instances_with name (n ∷ ns) (group ∷ groups) [] environments e f g = absurd (cc)
instances_with name (n ∷ ns) (group ∷ groups) (columns ∷ all) [] e f g = absurd (omega (arith))
instances_with name (n ∷ ns) (group ∷ groups) (columns ∷ all) (environment ∷ environments) e f g =
    let high : length group ≡ n = cc in
    let others : lengths groups ≡ ns = cc in
    let p = and_parts (fits n columns) (all_fit ns all) f in
    let rows = map (λ row. row ++ environment) (rows_of n columns) in
    let long : length rows ≡ length group = length_same (λ row. row ++ environment) (rows_of n columns) ∙ rows_length n columns p.0 ∙ sym high in
    ap₂ (λ l m. l ++ m) (beside_rows name group (rows_of n columns) environment) (instances_with name ns groups all environments others p.1 (omega (arith)))
    ∙ sym (with_name_append name rows (concatenation (inner_instances ns all environments)) group (concatenation groups) long)
