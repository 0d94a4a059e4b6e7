-- The runs of Reduce are its row.
use Rattle.std.specs.Prelude.{◌≡◌, ℕ, zero, suc, Bool, true, false, cond, List, [], ◌∷◌, ◌++◌, length, map, Option, Some, None, IfSome, Result, Ok, Err, IfOk, refl, ◌↔◌}
use Rattle.std.proofs.Common.{arith, sym, ◌∙◌, ap, subst}
use Rattle.snesl_data.specs.declared.dialect.Dialect.{Dialect}
use Rattle.snesl_data.specs.declared.fault.FaultKind.{FaultKind}
use Rattle.snesl_data.specs.declared.fault.FaultKind.TheVariants.{Shape}
use Rattle.snesl_data.specs.operators.Operators.{type_of, ScalarInRange}
use Rattle.snesl_data.specs.operators.Reductions.{and_then, reduction_type, reduced_nothing, reduced_more, reduced_all, reduction_from}
use Rattle.snesl_data.proofs.OfOperators.ReductionLaws.{nothing_type, nothing_range, more_type, more_shape, more_range}
use Rattle.snesl_data.specs.declared.operators.scalar.Scalar.{Scalar}
use Rattle.snesl_data.specs.declared.operators.operator.Reduction.{Reduction}
use Rattle.flow_messages.specs.Cells.{Cell, flag, is_of}
use Rattle.flow_base.specs.Flags.{F, T, elements, flags, concatenation}
use Rattle.flow_base.specs.Lists.{Lists}
use Rattle.flow_base.specs.Columns.{Columns, columns, push_column, rows_from}
use Rattle.flow_base.specs.Machines.{MachineLaws, SoundAt, on_kind, state_after_item, OnNext, OfNext, Run, Runs}
use Rattle.flow_base.specs.MachineRuns.{Then, reading, writing, run_is}
use Rattle.flow_folds.specs.OwnDialect.{own_read, own_write}
use Rattle.flow_folds.specs.Scalars.{cell_of_scalar, scalar_in}
use Rattle.flow_folds.specs.ScalarCells.{scalar_in-cell, scalar_in-some, is_of-cell, cell_in_range, scalar_in_range}
use Rattle.flow_folds.specs.Rows.{Reduced, ReduceRow, reduce_reads, reduce_writes}
use Rattle.flow_folds.specs.ReduceMachine.{at_flag, at_element, reduced_kind, reduce_move, OfStage, reduce_in_range, reduce_machine}
use Rattle.flow_folds.specs.declared.reduce.Stage.{Stage}
use Rattle.flow_folds.specs.declared.reduce.Stage.TheVariants.{Start, Flag, Element, Value}

-- an element of another kind is of another type, and so Shape already
pub element_is : (dialect : Dialect) (reduction : Reduction) (so_far : Option Scalar) (x : Cell) →
    state_after_item (on_kind (reduced_kind reduction) (λ x. at_element dialect reduction so_far (scalar_in x))) x
    ≡ at_element dialect reduction so_far (scalar_in x)
element_is dialect reduction so_far x = go (is_of (reduced_kind reduction) x) refl
  where
    other : is_of (reduced_kind reduction) x ≡ false → (z : Option Scalar) → scalar_in x ≡ z → Err Shape ≡ at_element dialect reduction so_far z
    other e None there = refl
    other e (Some y) there =
        let never : type_of y ≡ reduction_type reduction → ⊥ = λ same. let fits = is_of-cell y (reduction_type reduction) same in let cell =
        scalar_in-some x y there in let both : true ≡ false = sym fits ∙ ap (is_of (reduced_kind reduction)) (sym cell) ∙ e in cc in
        ap (λ more. and_then more (λ so_far. Ok (Flag so_far))) (sym (more_shape dialect reduction so_far y never))

    go : (b : Bool) → is_of (reduced_kind reduction) x ≡ b → cond b (at_element dialect reduction so_far (scalar_in x)) (Err Shape) ≡ at_element dialect reduction so_far (scalar_in x)
    go true e = refl
    go false e = other e (scalar_in x) refl

-- what holds of the value so far, holds of it at the end
ended : (P : Stage → Type 0) (so_far : Option Scalar) → IfSome so_far (λ x. P (Value x)) → OfNext (and_then (reduced_all so_far) (λ value. Ok (Value value))) P
ended P (Some x) h = h
ended P None h = tt

-- and of what is so far with one element more
added : (P : Stage → Type 0) (more : Result (Option Scalar) FaultKind) → IfOk more (λ so_far. P (Flag so_far)) → OfNext (and_then more (λ so_far. Ok (Flag so_far))) P
added P (Ok so_far) h = h
added P (Err kind) h = tt

-- what comes of an element is of the reduction's type
element_of_kind : (dialect : Dialect) (reduction : Reduction) (so_far z : Option Scalar) → OfNext (at_element dialect reduction so_far z) (OfStage (λ x. type_of x ≡ reduction_type reduction))
element_of_kind dialect reduction so_far (Some y) = added (OfStage (λ x. type_of x ≡ reduction_type reduction)) (reduced_more dialect reduction so_far y) (more_type dialect reduction so_far y)
element_of_kind dialect reduction so_far None = tt

-- and lies in the range
element_in_range : (dialect : Dialect) (reduction : Reduction) (so_far z : Option Scalar) → IfSome so_far (ScalarInRange dialect) →
    IfSome z (ScalarInRange dialect) → OfNext (at_element dialect reduction so_far z) (OfStage (ScalarInRange dialect))
element_in_range dialect reduction so_far (Some y) h range = added (OfStage (ScalarInRange dialect)) (reduced_more dialect reduction so_far y) (more_range dialect reduction so_far y h range)
element_in_range dialect reduction so_far None h range = tt

-- the table keeps to its laws
sound : (dialect : Dialect) (reduction : Reduction) (s : Stage) → SoundAt reduce_machine (dialect, reduction) s (reduce_move dialect reduction s)
sound dialect reduction Start =
    let kind = nothing_type reduction in
    let range = nothing_range dialect reduction in (
      refl,
      (
        omega arith,
        refl,
        λ _. (kind, ended (OfStage (λ x. type_of x ≡ reduction_type reduction)) (reduced_nothing reduction) kind),
        own_read reduce_in_range dialect Start (at_flag (reduced_nothing reduction)) (λ _. (range, ended (reduce_in_range dialect) (reduced_nothing reduction) range)),
      ),
    )
sound dialect reduction (Flag so_far) = (
  omega arith,
  refl,
  λ h. (h, ended (OfStage (λ x. type_of x ≡ reduction_type reduction)) so_far h),
  own_read reduce_in_range dialect (Flag so_far) (at_flag so_far) (λ h. (h, ended (reduce_in_range dialect) so_far h)),
)
sound dialect reduction (Element so_far) = (
  omega arith,
  refl,
  λ _ x _. element_of_kind dialect reduction so_far (scalar_in x),
  own_read reduce_in_range dialect (Element so_far) (on_kind (reduced_kind reduction) (λ x. at_element dialect reduction so_far (scalar_in x)))
      (λ h x _ range. element_in_range dialect reduction so_far (scalar_in x) h (scalar_in_range dialect x range)),
)
sound dialect reduction (Value value) = (
  omega arith,
  omega arith,
  λ h. (is_of-cell value (reduction_type reduction) h, tt),
  own_write reduce_in_range dialect (Value value) Start (cell_of_scalar value) (λ h. (cell_in_range dialect value h, tt)),
)

-- a run from this stage reads flags and elements and writes values
abbrev Does : Dialect → Reduction → Stage → List Cell → List Cell → List Cell → Type 0
Does dialect reduction s f a r = Runs reduce_machine (dialect, reduction) s (f ∷ a ∷ []) (r ∷ [])

-- elements that are left, and then a run, are a run
group_runs : (dialect : Dialect) (reduction : Reduction) (xs : List Scalar) (so_far : Option Scalar) (value : Scalar) →
    reduction_from dialect reduction so_far xs ≡ Ok value → {f a r : List Cell} → Does dialect reduction Start f a r →
    Does dialect reduction (Flag so_far) (elements (length xs) (T ∷ f)) (map cell_of_scalar xs ++ a) (cell_of_scalar value ∷ r)
group_runs dialect reduction [] (Some x) value e run = let same : value ≡ x = cc in (suc (suc run.0), (ap cell_of_scalar same, run.1))
group_runs dialect reduction [] None value e run = absurd (cc)
group_runs dialect reduction (x ∷ xs) so_far value e {f = f} {a = a} {r = r} run =
    let k = go (reduced_more dialect reduction so_far x) (λ more h. group_runs dialect reduction xs more value h run) e in (
      suc (suc k.0),
      subst (λ next. OnNext next (λ s. Run reduce_machine (dialect, reduction) k.0 s (elements (length xs) (T ∷ f) ∷ (map cell_of_scalar xs ++ a) ∷ []) ((cell_of_scalar value ∷ r) ∷ [])))
          (sym (element_is dialect reduction so_far (cell_of_scalar x) ∙ ap (at_element dialect reduction so_far) (scalar_in-cell x))) k.1,
    )
  where
    go : (more : Result (Option Scalar) FaultKind) →
        ((more : Option Scalar) → reduction_from dialect reduction more xs ≡ Ok value →
        Does dialect reduction (Flag more) (elements (length xs) (T ∷ f)) (map cell_of_scalar xs ++ a) (cell_of_scalar value ∷ r)) →
        and_then more (λ more. reduction_from dialect reduction more xs) ≡ Ok value →
        (n : ℕ) × OnNext (and_then more (λ so_far. Ok (Flag so_far)))
        (λ s. Run reduce_machine (dialect, reduction) n s (elements (length xs) (T ∷ f) ∷ (map cell_of_scalar xs ++ a) ∷ [])
        ((cell_of_scalar value ∷ r) ∷ []))
    go (Ok more) others e = others more e
    go (Err kind) others e = absurd (cc)

-- a group begins after no elements
begins_group : (dialect : Dialect) (reduction : Reduction) {f a r : List Cell} → Does dialect reduction (Flag (reduced_nothing reduction)) f a r → Does dialect reduction Start f a r
begins_group dialect reduction (suc n, r) = (suc n, r)
begins_group dialect reduction (zero, r) = absurd r

-- the row is a run
runs : (dialect : Dialect) (reduction : Reduction) (groups : List (Reduced dialect reduction)) →
    Runs reduce_machine (dialect, reduction) Start (reduce_reads dialect reduction groups) (reduce_writes dialect reduction groups)
runs dialect reduction [] = (zero, (refl, refl))
runs dialect reduction ((xs, value, e) ∷ groups) = begins_group dialect reduction (group_runs dialect reduction xs (reduced_nothing reduction) value e (runs dialect reduction groups))

-- the flags, the elements and the values of these groups
abbrev flags_of : (dialect : Dialect) (reduction : Reduction) → List (Reduced dialect reduction) → List Cell
flags_of dialect reduction groups = flags (map (λ g. length g.0) groups)

abbrev elements_of : (dialect : Dialect) (reduction : Reduction) → List (Reduced dialect reduction) → List Cell
elements_of dialect reduction groups = concatenation (map (λ g. map cell_of_scalar g.0) groups)

abbrev values_of : (dialect : Dialect) (reduction : Reduction) → List (Reduced dialect reduction) → List Cell
values_of dialect reduction groups = map (λ g. cell_of_scalar g.1) groups

-- what a run reads and writes
data Owes (dialect : Dialect) (reduction : Reduction) : Stage → Columns → Columns → Type 0 where
  start : (groups : List (Reduced dialect reduction)) → Owes dialect reduction Start (reduce_reads dialect reduction groups) (reduce_writes dialect reduction groups)
  flagged : (so_far : Option Scalar) (xs : List Scalar) (value : Scalar) → reduction_from dialect reduction so_far xs ≡ Ok value → (groups : List (Reduced dialect reduction)) →
      Owes dialect reduction (Flag so_far)
      (elements (length xs) (T ∷ flags_of dialect reduction groups) ∷ (map cell_of_scalar xs ++ elements_of dialect reduction groups) ∷ [])
      ((cell_of_scalar value ∷ values_of dialect reduction groups) ∷ [])
  element : (so_far : Option Scalar) (x : Scalar) (xs : List Scalar) (value : Scalar) → reduction_from dialect reduction so_far (x ∷ xs) ≡ Ok value → (groups : List (Reduced dialect reduction)) →
      Owes dialect reduction (Element so_far)
      (elements (length xs) (T ∷ flags_of dialect reduction groups)
      ∷ (cell_of_scalar x ∷ (map cell_of_scalar xs ++ elements_of dialect reduction groups)) ∷ [])
      ((cell_of_scalar value ∷ values_of dialect reduction groups) ∷ [])
  written : (value : Scalar) {i o : Columns} → Owes dialect reduction Start i o → Owes dialect reduction (Value value) i (push_column 0 (cell_of_scalar value) o)

-- F comes before an element, and T before the value of no more elements
more_left : (dialect : Dialect) (reduction : Reduction) (so_far : Option Scalar) (i o : Columns) → Owes dialect reduction (Element so_far) i o →
    Owes dialect reduction (Flag so_far) (push_column 0 F i) o
more_left dialect reduction so_far _ _ (element _ x xs value e groups) = flagged so_far (x ∷ xs) value e groups

none_left : (dialect : Dialect) (reduction : Reduction) (so_far : Option Scalar) (i o : Columns) →
    OnNext (and_then (reduced_all so_far) (λ value. Ok (Value value))) (λ next. Owes dialect reduction next i o) →
    Owes dialect reduction (Flag so_far) (push_column 0 T i) o
none_left dialect reduction (Some x) _ _ (written _ (start groups)) = flagged (Some x) [] x refl groups
none_left dialect reduction None _ _ h = absurd h

-- a group begins after no elements
opened : (dialect : Dialect) (reduction : Reduction) (i o : Columns) → Owes dialect reduction (Flag (reduced_nothing reduction)) i o → Owes dialect reduction Start i o
opened dialect reduction _ _ (flagged _ xs value e groups) = start ((xs, value, e) ∷ groups)

-- an element comes before those that are reduced after it
one_more : (dialect : Dialect) (reduction : Reduction) (so_far : Option Scalar) (x : Scalar) (more : Result (Option Scalar) FaultKind) →
    reduced_more dialect reduction so_far x ≡ more → (i o : Columns) →
    OnNext (and_then more (λ so_far. Ok (Flag so_far))) (λ next. Owes dialect reduction next i o) → Owes dialect reduction (Element so_far) (push_column 1 (cell_of_scalar x) i) o
one_more dialect reduction so_far x (Ok more) is _ _ (flagged _ xs value e groups) =
    element so_far x xs value (ap (λ more. and_then more (λ more. reduction_from dialect reduction more xs)) is ∙ e) groups
one_more dialect reduction so_far x (Err kind) is i o h = absurd h

at_scalar : (dialect : Dialect) (reduction : Reduction) (so_far : Option Scalar) (x : Cell) (z : Option Scalar) → scalar_in x ≡ z → (i o : Columns) →
    OnNext (at_element dialect reduction so_far z) (λ next. Owes dialect reduction next i o) →
    Owes dialect reduction (Element so_far) (push_column 1 x i) o
at_scalar dialect reduction so_far x (Some y) there i o h =
    subst (λ c. Owes dialect reduction (Element so_far) (push_column 1 c i) o) (sym (scalar_in-some x y there))
    (one_more dialect reduction so_far y (reduced_more dialect reduction so_far y) refl i o h)
at_scalar dialect reduction so_far x None there i o h = absurd h

-- what the next stage owes, and the step before it
earlier : (dialect : Dialect) (reduction : Reduction) (s : Stage) (x : Cell) (i o : Columns) →
    Then (λ next. Owes dialect reduction next i o) (reduce_move dialect reduction s) x →
    Owes dialect reduction s (reading (reduce_move dialect reduction s) x i) (writing (reduce_move dialect reduction s) o)
earlier dialect reduction Start (flag false) i o h = opened dialect reduction (push_column 0 F i) o (more_left dialect reduction (reduced_nothing reduction) i o h)
earlier dialect reduction Start (flag true) i o h = opened dialect reduction (push_column 0 T i) o (none_left dialect reduction (reduced_nothing reduction) i o h)
earlier dialect reduction (Flag so_far) (flag false) i o h = more_left dialect reduction so_far i o h
earlier dialect reduction (Flag so_far) (flag true) i o h = none_left dialect reduction so_far i o h
earlier dialect reduction (Element so_far) x i o h =
    at_scalar dialect reduction so_far x (scalar_in x) refl i o
    (subst (λ r. OnNext r (λ next. Owes dialect reduction next i o)) (element_is dialect reduction so_far x) h)
earlier dialect reduction (Value value) _ _ _ h = written value h
earlier dialect reduction (Flag so_far) _ _ _ h = absurd h
earlier dialect reduction _ _ _ _ h = absurd h

-- what is owed between two groups is the row
whole : {dialect : Dialect} {reduction : Reduction} {i o : Columns} → Owes dialect reduction Start i o → (groups : List (Reduced dialect reduction))
    × (i ≡ reduce_reads dialect reduction groups) × (o ≡ reduce_writes dialect reduction groups)
whole (start groups) = (groups, refl, refl)

rows : (dialect : Dialect) (reduction : Reduction) (i o : Lists Cell) → ReduceRow dialect reduction i o ↔ Runs reduce_machine (dialect, reduction) Start (columns 2 i) (columns 1 o)
rows dialect reduction = rows_from (reduce_reads dialect reduction) (reduce_writes dialect reduction) (Runs reduce_machine (dialect, reduction) Start) (runs dialect reduction)
    (λ i o r. whole (run_is reduce_machine (dialect, reduction) (Owes dialect reduction) (sound dialect reduction) (start []) (earlier dialect reduction) Start i o r)) 2 1

pub reduce_laws : MachineLaws reduce_machine
reduce_laws = record {
  sound = λ p. sound p.0 p.1;
  begins_at_start = λ _. refl;
  starts_of_kind = λ _. tt;
  rows = λ p. rows p.0 p.1;
}
