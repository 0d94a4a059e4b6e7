-- The values of operators: their types, and that their integers lie in the range.
use Rattle.std.proofs.Common.{◌≡◌, zero, suc, ◌≤◌, ℤ, pos, negsuc, ◌+ℤ◌, ◌-ℤ◌, ◌*ℤ◌, neg_ℤ, Bool, true, false, if◌then◌else◌, nat_le, Result, Ok, Err, IfOk, refl, arith, sym, ◌∙◌}
use Rattle.std.specs.Prelude.{int_div, int_rem}
use Rattle.std.proofs.lemmas.Bool.{leb-true, le-leb}
use lib.Signed.{mag, mag_rem}
use Rattle.snesl_data.specs.declared.dialect.Dialect.{Dialect}
use Rattle.snesl_data.specs.declared.fault.FaultKind.{FaultKind}
use Rattle.snesl_data.specs.declared.fault.FaultKind.TheVariants.{Overflow, Shape}
use Rattle.snesl_data.specs.Integers.{is_integer, IsInteger, greatest_integer}
use Rattle.snesl_data.specs.operators.Operators.{type_of, ScalarInRange, ranged, quotient, remainder, an_integer, unary_value, binary_value, unary_operand, binary_operand, binary_result}
use Rattle.snesl_data.specs.declared.operators.scalar.Scalar.{Scalar}
use Rattle.snesl_data.specs.declared.operators.scalar.Scalar.TheVariants.{Int, Bool as Truth}
use Rattle.snesl_data.specs.declared.operators.scalar.ScalarType.TheVariants.{Int as IntType, Bool as BoolType}
use Rattle.snesl_data.specs.declared.operators.operator.UnaryOperator.{UnaryOperator}
use Rattle.snesl_data.specs.declared.operators.operator.UnaryOperator.TheVariants.{Negate, Not}
use Rattle.snesl_data.specs.declared.operators.operator.BinaryOperator.{BinaryOperator}
use Rattle.snesl_data.specs.declared.operators.operator.BinaryOperator.TheVariants.{Add, Subtract, Multiply, Divide as Over, Remainder, EqualIntegers}
use Rattle.snesl_data.specs.declared.operators.operator.BinaryOperator.TheVariants.{EqualTruths, Less, AtMost, Greater, AtLeast, And, Or}

integer_is_int : (r : Result ℤ FaultKind) → IfOk (an_integer r) (λ x. type_of x ≡ IntType)
integer_is_int (Ok n) = refl
integer_is_int (Err kind) = tt

-- the value of an operator is of its type
pub unary_type : (dialect : Dialect) → (op : UnaryOperator) (x : Scalar) → IfOk (unary_value dialect op x) (λ v. type_of v ≡ unary_operand op)
unary_type dialect Negate (Int n) = integer_is_int (ranged dialect (neg_ℤ n))
unary_type dialect Negate (Truth b) = tt
unary_type dialect Not (Int n) = tt
unary_type dialect Not (Truth b) = refl

pub binary_type : (dialect : Dialect) → (op : BinaryOperator) (x y : Scalar) → IfOk (binary_value dialect op x y) (λ v. type_of v ≡ binary_result op)
binary_type dialect Add (Int m) (Int n) = integer_is_int (ranged dialect (m +ℤ n))
binary_type dialect Subtract (Int m) (Int n) = integer_is_int (ranged dialect (m -ℤ n))
binary_type dialect Multiply (Int m) (Int n) = integer_is_int (ranged dialect (m *ℤ n))
binary_type dialect Over (Int m) (Int n) = integer_is_int (quotient dialect m n)
binary_type dialect Remainder (Int m) (Int n) = integer_is_int (remainder m n)
binary_type dialect EqualIntegers (Int m) (Int n) = refl
binary_type dialect EqualTruths (Truth a) (Truth b) = refl
binary_type dialect Less (Int m) (Int n) = refl
binary_type dialect AtMost (Int m) (Int n) = refl
binary_type dialect Greater (Int m) (Int n) = refl
binary_type dialect AtLeast (Int m) (Int n) = refl
binary_type dialect And (Truth a) (Truth b) = refl
binary_type dialect Or (Truth a) (Truth b) = refl
binary_type dialect _ _ _ = tt

-- an operand of another type is Shape
pub unary_shape : (dialect : Dialect) → (op : UnaryOperator) (x : Scalar) → (type_of x ≡ unary_operand op → ⊥) → unary_value dialect op x ≡ Err Shape
unary_shape dialect Negate (Int n) h = absurd (h refl)
unary_shape dialect Negate (Truth b) h = refl
unary_shape dialect Not (Int n) h = refl
unary_shape dialect Not (Truth b) h = absurd (h refl)

shape_integers : (dialect : Dialect) → (op : BinaryOperator) (m n : ℤ) → (binary_operand op ≡ IntType → ⊥) → binary_value dialect op (Int m) (Int n) ≡ Err Shape
shape_integers dialect EqualTruths m n h = refl
shape_integers dialect And m n h = refl
shape_integers dialect Or m n h = refl
shape_integers dialect _ m n h = absurd (h refl)

shape_truths : (dialect : Dialect) → (op : BinaryOperator) (a b : Bool) → (binary_operand op ≡ BoolType → ⊥) → binary_value dialect op (Truth a) (Truth b) ≡ Err Shape
shape_truths dialect EqualTruths a b h = absurd (h refl)
shape_truths dialect And a b h = absurd (h refl)
shape_truths dialect Or a b h = absurd (h refl)
shape_truths dialect _ a b h = refl

shape_mixed : (dialect : Dialect) → (op : BinaryOperator) (n : ℤ) (b : Bool) → (binary_value dialect op (Int n) (Truth b) ≡ Err Shape) × (binary_value dialect op (Truth b) (Int n) ≡ Err Shape)
shape_mixed dialect EqualTruths n b = (refl, refl)
shape_mixed dialect _ n b = (refl, refl)

pub binary_shape : (dialect : Dialect) → (op : BinaryOperator) (x y : Scalar) → ((type_of x ≡ binary_operand op) × (type_of y ≡ binary_operand op) → ⊥) → binary_value dialect op x y ≡ Err Shape
binary_shape dialect op (Int m) (Int n) h = shape_integers dialect op m n (λ e. h (sym e, sym e))
binary_shape dialect op (Int m) (Truth b) h = (shape_mixed dialect op m b).0
binary_shape dialect op (Truth a) (Int n) h = (shape_mixed dialect op n a).1
binary_shape dialect op (Truth a) (Truth b) h = shape_truths dialect op a b (λ e. h (sym e, sym e))

-- where there is a value, the operands are of the operator's type
pub unary_operand_type : (dialect : Dialect) → (op : UnaryOperator) (x v : Scalar) → unary_value dialect op x ≡ Ok v → type_of x ≡ unary_operand op
unary_operand_type dialect Negate (Int n) v e = refl
unary_operand_type dialect Negate (Truth b) v e = absurd (cc)
unary_operand_type dialect Not (Int n) v e = absurd (cc)
unary_operand_type dialect Not (Truth b) v e = refl

pub binary_operand_types : (dialect : Dialect) → (op : BinaryOperator) (x y v : Scalar) → binary_value dialect op x y ≡ Ok v → (type_of x ≡ binary_operand op) × (type_of y ≡ binary_operand op)
binary_operand_types dialect op (Int m) (Truth b) v e = let mixed = (shape_mixed dialect op m b).0 in absurd (cc)
binary_operand_types dialect op (Truth a) (Int n) v e = let mixed = (shape_mixed dialect op n a).1 in absurd (cc)
binary_operand_types dialect EqualTruths (Int m) (Int n) v e = absurd (cc)
binary_operand_types dialect And (Int m) (Int n) v e = absurd (cc)
binary_operand_types dialect Or (Int m) (Int n) v e = absurd (cc)
binary_operand_types dialect _ (Int m) (Int n) v e = (refl, refl)
binary_operand_types dialect EqualTruths (Truth a) (Truth b) v e = (refl, refl)
binary_operand_types dialect And (Truth a) (Truth b) v e = (refl, refl)
binary_operand_types dialect Or (Truth a) (Truth b) v e = (refl, refl)
binary_operand_types dialect _ (Truth a) (Truth b) v e = absurd (cc)

pub ranged_integer : (dialect : Dialect) → (n : ℤ) → IfOk (ranged dialect n) (IsInteger dialect)
ranged_integer dialect n = go (is_integer dialect n) refl
  where
    go : (b : Bool) → is_integer dialect n ≡ b → let r : Result ℤ FaultKind = if b then Ok n else Err Overflow in IfOk r (IsInteger dialect)
    go true e = e
    go false e = tt

-- the remainder of an integer in the range is in the range
pub rem_integer : (dialect : Dialect) → (m n : ℤ) → IsInteger dialect m → IsInteger dialect (int_rem m n)
rem_integer dialect m n h =
    let fit : mag m ≤ greatest_integer dialect = leb-true _ _ (sym (integer_mag m) ∙ h) in
    let less : mag (int_rem m n) ≤ greatest_integer dialect = omega (arith, mag_rem m n) in
    integer_mag (int_rem m n) ∙ le-leb _ _ less
  where
    integer_mag : (z : ℤ) → is_integer dialect z ≡ nat_le (mag z) (greatest_integer dialect)
    integer_mag (pos n) = refl
    integer_mag (negsuc n) = refl

quotient_integer : (dialect : Dialect) → (m n : ℤ) → IfOk (quotient dialect m n) (IsInteger dialect)
quotient_integer dialect m (pos zero) = tt
quotient_integer dialect m (pos (suc n)) = ranged_integer dialect (int_div m (pos (suc n)))
quotient_integer dialect m (negsuc n) = ranged_integer dialect (int_div m (negsuc n))

remainder_integer : (dialect : Dialect) → (m n : ℤ) → IsInteger dialect m → IfOk (remainder m n) (IsInteger dialect)
remainder_integer dialect m (pos zero) h = tt
remainder_integer dialect m (pos (suc n)) h = rem_integer dialect m (pos (suc n)) h
remainder_integer dialect m (negsuc n) h = rem_integer dialect m (negsuc n) h

integer_in_range : (dialect : Dialect) → (r : Result ℤ FaultKind) → IfOk r (IsInteger dialect) → IfOk (an_integer r) (ScalarInRange dialect)
integer_in_range dialect (Ok n) h = h
integer_in_range dialect (Err kind) h = tt

-- the value of an operator lies in the range where the operands do
pub unary_range : (dialect : Dialect) → (op : UnaryOperator) (x : Scalar) → IfOk (unary_value dialect op x) (ScalarInRange dialect)
unary_range dialect Negate (Int n) = integer_in_range dialect (ranged dialect (neg_ℤ n)) (ranged_integer dialect (neg_ℤ n))
unary_range dialect Negate (Truth b) = tt
unary_range dialect Not (Int n) = tt
unary_range dialect Not (Truth b) = tt

pub binary_range : (dialect : Dialect) → (op : BinaryOperator) (x y : Scalar) → ScalarInRange dialect x → ScalarInRange dialect y → IfOk (binary_value dialect op x y) (ScalarInRange dialect)
binary_range dialect Add (Int m) (Int n) hx hy = integer_in_range dialect (ranged dialect (m +ℤ n)) (ranged_integer dialect (m +ℤ n))
binary_range dialect Subtract (Int m) (Int n) hx hy = integer_in_range dialect (ranged dialect (m -ℤ n)) (ranged_integer dialect (m -ℤ n))
binary_range dialect Multiply (Int m) (Int n) hx hy = integer_in_range dialect (ranged dialect (m *ℤ n)) (ranged_integer dialect (m *ℤ n))
binary_range dialect Over (Int m) (Int n) hx hy = integer_in_range dialect (quotient dialect m n) (quotient_integer dialect m n)
binary_range dialect Remainder (Int m) (Int n) hx hy = integer_in_range dialect (remainder m n) (remainder_integer dialect m n hx)
binary_range dialect EqualIntegers (Int m) (Int n) hx hy = tt
binary_range dialect Less (Int m) (Int n) hx hy = tt
binary_range dialect AtMost (Int m) (Int n) hx hy = tt
binary_range dialect Greater (Int m) (Int n) hx hy = tt
binary_range dialect AtLeast (Int m) (Int n) hx hy = tt
binary_range dialect EqualTruths (Truth a) (Truth b) hx hy = tt
binary_range dialect And (Truth a) (Truth b) hx hy = tt
binary_range dialect Or (Truth a) (Truth b) hx hy = tt
binary_range dialect _ _ _ hx hy = tt
