-- What scans and reductions give, from the left to the right.
use Rattle.std.specs.Prelude.{ℤ, pos, ◌+ℤ◌, int_lt, true, false, if◌then◌else◌, List, [], ◌∷◌, Option, Some, None, Result, Ok, Err}
use Rattle.snesl_data.specs.declared.dialect.Dialect.{Dialect}
use Rattle.snesl_data.specs.declared.fault.FaultKind.{FaultKind}
use Rattle.snesl_data.specs.declared.fault.FaultKind.TheVariants.{EmptyMax, Shape}
use Rattle.snesl_data.specs.operators.Operators.{ranged, binary_value}
use Rattle.snesl_data.specs.declared.operators.scalar.Scalar.{Scalar}
use Rattle.snesl_data.specs.declared.operators.scalar.Scalar.TheVariants.{Int, Bool as Truth}
use Rattle.snesl_data.specs.declared.operators.scalar.ScalarType.{ScalarType}
use Rattle.snesl_data.specs.declared.operators.scalar.ScalarType.TheVariants.{Int as IntType, Bool as BoolType}
use Rattle.snesl_data.specs.declared.operators.operator.BinaryOperator.TheVariants.{Add, And, Or}
use Rattle.snesl_data.specs.declared.operators.operator.Reduction.{Reduction}
use Rattle.snesl_data.specs.declared.operators.operator.Reduction.TheVariants.{Sum, Max, All, Any}

-- the type of a reduction's elements, and of its value
abbrev pub reduction_type : Reduction → ScalarType
reduction_type Sum = IntType
reduction_type Max = IntType
reduction_type All = BoolType
reduction_type Any = BoolType

-- what nothing reduces to; there is no greatest of nothing
abbrev pub reduced_nothing : Reduction → Option Scalar
reduced_nothing Sum = Some (Int (pos 0))
reduced_nothing Max = None
reduced_nothing All = Some (Truth true)
reduced_nothing Any = Some (Truth false)

abbrev pub some_of : Result Scalar FaultKind → Result (Option Scalar) FaultKind
some_of (Ok x) = Ok (Some x)
some_of (Err kind) = Err kind

-- what the elements so far and one more reduce to
abbrev pub reduced_more : Dialect → Reduction → Option Scalar → Scalar → Result (Option Scalar) FaultKind
reduced_more dialect Sum (Some so_far) x = some_of (binary_value dialect Add so_far x)
reduced_more dialect Max None (Int n) = Ok (Some (Int n))
reduced_more dialect Max (Some (Int m)) (Int n) = Ok (Some (Int (if int_lt m n then n else m)))
reduced_more dialect All (Some so_far) x = some_of (binary_value dialect And so_far x)
reduced_more dialect Any (Some so_far) x = some_of (binary_value dialect Or so_far x)
reduced_more dialect _ _ _ = Err Shape

-- the value of a reduction, once all elements came
abbrev pub reduced_all : Option Scalar → Result Scalar FaultKind
reduced_all (Some x) = Ok x
reduced_all None = Err EmptyMax

-- goes on with what there is; a fault ends all
abbrev pub and_then : {A B : Type 0} → Result A FaultKind → (A → Result B FaultKind) → Result B FaultKind
and_then (Ok x) next = next x
and_then (Err kind) next = Err kind

-- what the elements so far and others after them reduce to
abbrev pub reduction_from : Dialect → Reduction → Option Scalar → List Scalar → Result Scalar FaultKind
reduction_from dialect reduction so_far [] = reduced_all so_far
reduction_from dialect reduction so_far (x ∷ xs) = and_then (reduced_more dialect reduction so_far x) (λ more. reduction_from dialect reduction more xs)

-- what the elements reduce to
abbrev pub reduction_of : Dialect → Reduction → List Scalar → Result Scalar FaultKind
reduction_of dialect reduction xs = reduction_from dialect reduction (reduced_nothing reduction) xs

-- at each element the sum of those before it, after a sum so far; each sum that is given lies in the range
abbrev pub scan_from : Dialect → ℤ → List ℤ → Result (List ℤ) FaultKind
scan_from dialect so_far [] = Ok []
scan_from dialect so_far (x ∷ []) = Ok (so_far ∷ [])
scan_from dialect so_far (x ∷ y ∷ xs) = and_then (ranged dialect (so_far +ℤ x)) (λ sum. and_then (scan_from dialect sum (y ∷ xs)) (λ sums. Ok (so_far ∷ sums)))

-- at each element the sum of those before it
abbrev pub scan_of : Dialect → List ℤ → Result (List ℤ) FaultKind
scan_of dialect xs = scan_from dialect (pos 0) xs
