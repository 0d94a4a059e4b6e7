-- What the operators of the language give.
use Rattle.std.specs.Prelude.{zero, ℤ, pos, negsuc, ◌+ℤ◌, ◌-ℤ◌, ◌*ℤ◌, neg_ℤ, int_lt, int_div, int_rem, Bool, true, false, not, ◌&&◌, ◌||◌, ◌==◌, if◌then◌else◌, Result, Ok, Err}
use Rattle.snesl_data.specs.declared.dialect.Dialect.{Dialect}
use Rattle.snesl_data.specs.declared.fault.FaultKind.{FaultKind}
use Rattle.snesl_data.specs.declared.fault.FaultKind.TheVariants.{Divide, Overflow, Shape}
use Rattle.snesl_data.specs.Integers.{is_integer, IsInteger}
use Rattle.snesl_data.specs.declared.operators.scalar.Scalar.{Scalar}
use Rattle.snesl_data.specs.declared.operators.scalar.Scalar.TheVariants.{Int, Bool as Truth}
use Rattle.snesl_data.specs.declared.operators.scalar.ScalarType.{ScalarType}
use Rattle.snesl_data.specs.declared.operators.scalar.ScalarType.TheVariants.{Int as IntType, Bool as BoolType}
use Rattle.snesl_data.specs.declared.operators.operator.UnaryOperator.{UnaryOperator}
use Rattle.snesl_data.specs.declared.operators.operator.UnaryOperator.TheVariants.{Negate, Not}
use Rattle.snesl_data.specs.declared.operators.operator.BinaryOperator.{BinaryOperator}
use Rattle.snesl_data.specs.declared.operators.operator.BinaryOperator.TheVariants.{Add, Subtract, Multiply, Divide as Over, Remainder, EqualIntegers}
use Rattle.snesl_data.specs.declared.operators.operator.BinaryOperator.TheVariants.{EqualTruths, Less, AtMost, Greater, AtLeast, And, Or}

abbrev pub type_of : Scalar → ScalarType
type_of (Int n) = IntType
type_of (Truth b) = BoolType

-- an integer among the scalars lies in the range
abbrev pub ScalarInRange : Dialect → Scalar → Type 0
ScalarInRange dialect (Int n) = IsInteger dialect n
ScalarInRange dialect (Truth b) = Unit {0}

-- the integer, where it lies in the range
abbrev pub ranged : Dialect → ℤ → Result ℤ FaultKind
ranged dialect n = if is_integer dialect n then Ok n else Err Overflow

-- the quotient, rounded towards zero
abbrev pub quotient : Dialect → ℤ → ℤ → Result ℤ FaultKind
quotient dialect m (pos zero) = Err Divide
quotient dialect m n = ranged dialect (int_div m n)

-- what the rounded quotient leaves, which has the sign of m
abbrev pub remainder : ℤ → ℤ → Result ℤ FaultKind
remainder m (pos zero) = Err Divide
remainder m n = Ok (int_rem m n)

abbrev pub same_integer : ℤ → ℤ → Bool
same_integer (pos m) (pos n) = m == n
same_integer (negsuc m) (negsuc n) = m == n
same_integer _ _ = false

abbrev pub same_truth : Bool → Bool → Bool
same_truth true b = b
same_truth false b = not b

abbrev pub an_integer : Result ℤ FaultKind → Result Scalar FaultKind
an_integer (Ok n) = Ok (Int n)
an_integer (Err kind) = Err kind

-- the value of an operator at one operand
abbrev pub unary_value : Dialect → UnaryOperator → Scalar → Result Scalar FaultKind
unary_value dialect Negate (Int n) = an_integer (ranged dialect (neg_ℤ n))
unary_value dialect Not (Truth b) = Ok (Truth (not b))
unary_value dialect _ _ = Err Shape

-- the value of an operator at two operands
abbrev pub binary_value : Dialect → BinaryOperator → Scalar → Scalar → Result Scalar FaultKind
binary_value dialect Add (Int m) (Int n) = an_integer (ranged dialect (m +ℤ n))
binary_value dialect Subtract (Int m) (Int n) = an_integer (ranged dialect (m -ℤ n))
binary_value dialect Multiply (Int m) (Int n) = an_integer (ranged dialect (m *ℤ n))
binary_value dialect Over (Int m) (Int n) = an_integer (quotient dialect m n)
binary_value dialect Remainder (Int m) (Int n) = an_integer (remainder m n)
binary_value dialect EqualIntegers (Int m) (Int n) = Ok (Truth (same_integer m n))
binary_value dialect EqualTruths (Truth a) (Truth b) = Ok (Truth (same_truth a b))
binary_value dialect Less (Int m) (Int n) = Ok (Truth (int_lt m n))
binary_value dialect AtMost (Int m) (Int n) = Ok (Truth (not (int_lt n m)))
binary_value dialect Greater (Int m) (Int n) = Ok (Truth (int_lt n m))
binary_value dialect AtLeast (Int m) (Int n) = Ok (Truth (not (int_lt m n)))
binary_value dialect And (Truth a) (Truth b) = Ok (Truth (a && b))
binary_value dialect Or (Truth a) (Truth b) = Ok (Truth (a || b))
binary_value dialect _ _ _ = Err Shape

-- the type of an operator's operands
abbrev pub unary_operand : UnaryOperator → ScalarType
unary_operand Negate = IntType
unary_operand Not = BoolType

abbrev pub binary_operand : BinaryOperator → ScalarType
binary_operand EqualTruths = BoolType
binary_operand And = BoolType
binary_operand Or = BoolType
binary_operand _ = IntType

-- the type of an operator's value
abbrev pub binary_result : BinaryOperator → ScalarType
binary_result Add = IntType
binary_result Subtract = IntType
binary_result Multiply = IntType
binary_result Over = IntType
binary_result Remainder = IntType
binary_result _ = BoolType
