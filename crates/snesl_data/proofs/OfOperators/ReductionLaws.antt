-- The values of reductions and scans: their types, and that their integers lie in the range.
use Rattle.std.proofs.Common.{◌≡◌, ℤ, ◌+ℤ◌, Bool, true, false, if◌then◌else◌, List, [], ◌∷◌, Option, Some, None, IfSome, Result, Ok, Err, IfOk, refl}
use Rattle.std.specs.Prelude.{int_lt}
use Rattle.std.specs.List.{All}
use Rattle.std.proofs.lemmas.List.Elements.{All-nil, All-cons, All-head, All-tail}
use Rattle.snesl_data.specs.declared.dialect.Dialect.{Dialect}
use Rattle.snesl_data.specs.declared.dialect.Dialect.TheVariants.{One, Two}
use Rattle.snesl_data.specs.declared.fault.FaultKind.{FaultKind}
use Rattle.snesl_data.specs.declared.fault.FaultKind.TheVariants.{Shape}
use Rattle.snesl_data.specs.Integers.{IsInteger}
use Rattle.snesl_data.specs.operators.Operators.{type_of, ScalarInRange, ranged, binary_value}
use Rattle.snesl_data.specs.operators.Reductions.{reduction_type, reduced_nothing, some_of, reduced_more, reduced_all, reduction_from, reduction_of, and_then, scan_from}
use Rattle.snesl_data.specs.declared.operators.scalar.Scalar.{Scalar}
use Rattle.snesl_data.specs.declared.operators.scalar.Scalar.TheVariants.{Int}
use Rattle.snesl_data.specs.declared.operators.scalar.ScalarType.TheVariants.{Int as IntType, Bool as BoolType}
use Rattle.snesl_data.specs.declared.operators.operator.BinaryOperator.TheVariants.{Add, And, Or}
use Rattle.snesl_data.specs.declared.operators.operator.Reduction.{Reduction}
use Rattle.snesl_data.specs.declared.operators.operator.Reduction.TheVariants.{Sum, Max, All as Each, Any}
use Rattle.snesl_data.proofs.OfOperators.OperatorLaws.{binary_type, binary_range, binary_shape, ranged_integer}

some_is : (P : Scalar → Type 0) (r : Result Scalar FaultKind) → IfOk r P → IfOk (some_of r) (λ more. IfSome more P)
some_is P (Ok x) h = h
some_is P (Err kind) h = tt

-- what nothing reduces to is of the reduction's type, and lies in the range
pub nothing_type : (r : Reduction) → IfSome (reduced_nothing r) (λ x. type_of x ≡ reduction_type r)
nothing_type Sum = refl
nothing_type Max = tt
nothing_type Each = refl
nothing_type Any = refl

pub nothing_range : (dialect : Dialect) → (r : Reduction) → IfSome (reduced_nothing r) (ScalarInRange dialect)
nothing_range One Sum = refl
nothing_range Two Sum = refl
nothing_range dialect Max = tt
nothing_range dialect Each = tt
nothing_range dialect Any = tt

-- what the elements so far and one more reduce to is of the reduction's type
pub more_type : (dialect : Dialect) → (r : Reduction) (so_far : Option Scalar) (x : Scalar) → IfOk (reduced_more dialect r so_far x) (λ more. IfSome more (λ y. type_of y ≡ reduction_type r))
more_type dialect Sum (Some y) x = some_is (λ z. type_of z ≡ IntType) (binary_value dialect Add y x) (binary_type dialect Add y x)
more_type dialect Max None (Int n) = refl
more_type dialect Max (Some (Int m)) (Int n) = refl
more_type dialect Each (Some y) x = some_is (λ z. type_of z ≡ BoolType) (binary_value dialect And y x) (binary_type dialect And y x)
more_type dialect Any (Some y) x = some_is (λ z. type_of z ≡ BoolType) (binary_value dialect Or y x) (binary_type dialect Or y x)
more_type dialect _ _ _ = tt

-- an element of another type is Shape
pub more_shape : (dialect : Dialect) → (r : Reduction) (so_far : Option Scalar) (x : Scalar) → (type_of x ≡ reduction_type r → ⊥) → reduced_more dialect r so_far x ≡ Err Shape
more_shape dialect Sum None x h = refl
more_shape dialect Sum (Some y) x h = rw (binary_shape dialect Add y x (λ e. h e.1)) refl
more_shape dialect Max None (Int n) h = absurd (h refl)
more_shape dialect Max (Some (Int m)) (Int n) h = absurd (h refl)
more_shape dialect Each None x h = refl
more_shape dialect Each (Some y) x h = rw (binary_shape dialect And y x (λ e. h e.1)) refl
more_shape dialect Any None x h = refl
more_shape dialect Any (Some y) x h = rw (binary_shape dialect Or y x (λ e. h e.1)) refl
more_shape dialect Max _ _ h = refl

greater_integer : (dialect : Dialect) → (b : Bool) (m n : ℤ) → IsInteger dialect m → IsInteger dialect n → IsInteger dialect (if b then n else m)
greater_integer dialect true m n hm hn = hn
greater_integer dialect false m n hm hn = hm

-- what the elements so far and one more reduce to lies in the range where they do
pub more_range : (dialect : Dialect) → (r : Reduction) (so_far : Option Scalar) (x : Scalar) → IfSome so_far (ScalarInRange dialect) →
    ScalarInRange dialect x → IfOk (reduced_more dialect r so_far x) (λ more. IfSome more (ScalarInRange dialect))
more_range dialect Sum (Some y) x hy hx = some_is (ScalarInRange dialect) (binary_value dialect Add y x) (binary_range dialect Add y x hy hx)
more_range dialect Max None (Int n) hy hx = hx
more_range dialect Max (Some (Int m)) (Int n) hy hx = greater_integer dialect (int_lt m n) m n hy hx
more_range dialect Each (Some y) x hy hx = some_is (ScalarInRange dialect) (binary_value dialect And y x) (binary_range dialect And y x hy hx)
more_range dialect Any (Some y) x hy hx = some_is (ScalarInRange dialect) (binary_value dialect Or y x) (binary_range dialect Or y x hy hx)
more_range dialect _ _ _ _ _ = tt

goes_on : {A B : Type 0} (P : A → Type 0) (Q : B → Type 0) (r : Result A FaultKind) (next : A → Result B FaultKind) → IfOk r P → ((a : A) → P a → IfOk (next a) Q) → IfOk (and_then r next) Q
goes_on P Q (Ok x) next h go = go x h
goes_on P Q (Err kind) next h go = tt

all_is : (P : Scalar → Type 0) (so_far : Option Scalar) → IfSome so_far P → IfOk (reduced_all so_far) P
all_is P (Some x) h = h
all_is P None h = tt

from_type : (dialect : Dialect) → (r : Reduction) (so_far : Option Scalar) (xs : List Scalar) → IfSome so_far (λ y. type_of y ≡ reduction_type r) →
    IfOk (reduction_from dialect r so_far xs) (λ y. type_of y ≡ reduction_type r)
from_type dialect r so_far [] h = all_is (λ y. type_of y ≡ reduction_type r) so_far h
from_type dialect r so_far (x ∷ xs) h =
    goes_on (λ more. IfSome more (λ y. type_of y ≡ reduction_type r)) (λ y. type_of y ≡ reduction_type r) (reduced_more dialect r so_far x)
    (λ more. reduction_from dialect r more xs) (more_type dialect r so_far x) (λ more e. from_type dialect r more xs e)

-- the value of a reduction is of its type
pub reduced_type : (dialect : Dialect) → (r : Reduction) (xs : List Scalar) → IfOk (reduction_of dialect r xs) (λ y. type_of y ≡ reduction_type r)
reduced_type dialect r xs = from_type dialect r (reduced_nothing r) xs (nothing_type r)

from_range : (dialect : Dialect) → (r : Reduction) (so_far : Option Scalar) (xs : List Scalar) → IfSome so_far (ScalarInRange dialect) →
    All (ScalarInRange dialect) xs → IfOk (reduction_from dialect r so_far xs) (ScalarInRange dialect)
from_range dialect r so_far [] h hs = all_is (ScalarInRange dialect) so_far h
from_range dialect r so_far (x ∷ xs) h hs =
    goes_on (λ more. IfSome more (ScalarInRange dialect)) (ScalarInRange dialect) (reduced_more dialect r so_far x)
    (λ more. reduction_from dialect r more xs) (more_range dialect r so_far x h (All-head (ScalarInRange dialect) x xs hs))
    (λ more e. from_range dialect r more xs e (All-tail (ScalarInRange dialect) x xs hs))

-- the value of a reduction lies in the range where the elements do
pub reduced_range : (dialect : Dialect) → (r : Reduction) (xs : List Scalar) → All (ScalarInRange dialect) xs → IfOk (reduction_of dialect r xs) (ScalarInRange dialect)
reduced_range dialect r xs hs = from_range dialect r (reduced_nothing r) xs (nothing_range dialect r) hs

-- the sums of a scan lie in the range where the first does
pub scanned_range : (dialect : Dialect) → (so_far : ℤ) (xs : List ℤ) → IsInteger dialect so_far → IfOk (scan_from dialect so_far xs) (All (IsInteger dialect))
scanned_range dialect so_far [] h = All-nil (IsInteger dialect)
scanned_range dialect so_far (x ∷ []) h = All-cons (IsInteger dialect) so_far [] h (All-nil (IsInteger dialect))
scanned_range dialect so_far (x ∷ y ∷ xs) h =
    goes_on (IsInteger dialect) (All (IsInteger dialect)) (ranged dialect (so_far +ℤ x))
    (λ sum. and_then (scan_from dialect sum (y ∷ xs)) (λ sums. Ok (so_far ∷ sums))) (ranged_integer dialect (so_far +ℤ x)) (λ sum e.
    goes_on (All (IsInteger dialect)) (All (IsInteger dialect)) (scan_from dialect sum (y ∷ xs)) (λ sums. Ok (so_far ∷ sums))
    (scanned_range dialect sum (y ∷ xs) e) (λ sums es. All-cons (IsInteger dialect) so_far sums h es))
