-- Steps of an operator on two scalars, along pairs of integers.
use Rattle.std.proofs.Common.{◌≡◌, ℕ, ℤ, pos, suc, zero, ◌+◌, ◌*◌, ◌<◌, ◌≤◌, List, [], ◌∷◌, length, take, get_or, Ok, refl, ◌∙◌, ap, subst, arith}
use Rattle.snesl_data.specs.declared.dialect.Dialect.{Dialect}
use Rattle.snesl_data.specs.operators.Operators.{binary_operand, binary_value}
use Rattle.snesl_data.specs.operators.Reductions.{and_then}
use Rattle.snesl_data.specs.declared.operators.scalar.Scalar.{Scalar}
use Rattle.snesl_data.specs.declared.operators.scalar.Scalar.TheVariants.{Int}
use Rattle.snesl_data.specs.declared.operators.scalar.ScalarType.TheVariants.{Int as IntType}
use Rattle.snesl_data.specs.declared.operators.operator.BinaryOperator.{BinaryOperator}
use Rattle.snesl_data.specs.declared.operators.operator.BinaryOperator.TheVariants.{Add, Subtract, Multiply, Divide as Over, Remainder, EqualIntegers}
use Rattle.snesl_data.specs.declared.operators.operator.BinaryOperator.TheVariants.{EqualTruths, Less, AtMost, Greater, AtLeast, And, Or}
use Rattle.flow_messages.specs.Blocks.{int_signals}
use Rattle.flow_messages.specs.Cells.{int}
use Rattle.flow_messages.specs.Signals.{Signal, carry}
use Rattle.flow_base.specs.Machines.{state_after_item}
use Rattle.flow_base.proofs.Along.{Single, only, ran_as, single_none, single_first, single_second, single_write, single_then}
use Rattle.flow_scalar.specs.Operands.{operand_in, on_operand}
use Rattle.flow_folds.specs.Scalars.{cell_of_scalar}
use Rattle.flow_scalar.specs.declared.binary.Progress.TheVariants.{Start, Left, Value}
use Rattle.flow_scalar.specs.BinaryMachine.{binary_next, binary_machine}
use Rattle.flow_scalar.proofs.Leading.{operand_taken}
use Rattle.flow_scalar.proofs.ValueBlocks.{values_said, one_more}

-- what has a value at two integers takes integers
takes_ints : (dialect : Dialect) (op : BinaryOperator) (x y : ℤ) (v : Scalar) → binary_value dialect op (Int x) (Int y) ≡ Ok v → binary_operand op ≡ IntType
takes_ints dialect Add x y v e = refl
takes_ints dialect Subtract x y v e = refl
takes_ints dialect Multiply x y v e = refl
takes_ints dialect Over x y v e = refl
takes_ints dialect Remainder x y v e = refl
takes_ints dialect EqualIntegers x y v e = refl
takes_ints dialect EqualTruths x y v e = absurd (cc)
takes_ints dialect Less x y v e = refl
takes_ints dialect AtMost x y v e = refl
takes_ints dialect Greater x y v e = refl
takes_ints dialect AtLeast x y v e = refl
takes_ints dialect And x y v e = absurd (cc)
takes_ints dialect Or x y v e = absurd (cc)

module _ (dialect : Dialect) (op : BinaryOperator) where
  -- steps that read these pairs and write these values
  abbrev Pairs : List Signal → List Signal → List Signal → ℕ → Type 0
  Pairs xs ys zs n = Single binary_machine (dialect, op) Start Start xs ys zs n

  -- a pair at which there is a value is an instance
  pair : (x y : ℤ) (v : Scalar) → binary_value dialect op (Int x) (Int y) ≡ Ok v → Pairs (carry (int x) ∷ []) (carry (int y) ∷ []) (carry (cell_of_scalar v) ∷ []) 3
  pair x y v e =
      let m = binary_machine in
      let p : Dialect × BinaryOperator = (dialect, op) in
      let type = binary_operand op in
      let is : type ≡ IntType = takes_ints dialect op x y v e in
      let first : operand_in type (int x) ≡ Ok (Int x) = ap (λ t. operand_in t (int x)) is in
      let second : operand_in type (int y) ≡ Ok (Int y) = ap (λ t. operand_in t (int y)) is in
      let begin = on_operand type (λ k. Ok (Left k)) in
      let next = on_operand type (binary_next dialect op (Int x)) in
      let to_left : state_after_item begin (int x) ≡ Ok (Left (Int x)) = operand_taken type (λ k. Ok (Left k)) (int x) (Int x) first in
      let to_value : state_after_item next (int y) ≡ Ok (Value v) = operand_taken type (binary_next dialect op (Int x)) (int y) (Int y) second ∙ ap (λ r. and_then r (λ v. Ok (Value v))) e in
      let one = single_first m p Start (Left (Int x)) (int x) refl to_left in
      let two = single_second m p (Left (Int x)) (Value v) (int y) refl to_value in
      let three = single_write m p (Value v) Start (cell_of_scalar v) refl refl refl in
      single_then m p (carry (int x) ∷ []) (carry (int y) ∷ []) [] [] [] (carry (cell_of_scalar v) ∷ []) (single_then m p (carry (int x) ∷ []) [] [] [] (carry (int y) ∷ []) [] one two) three

  module _ {A : Type 0} (said : A → Scalar) (none : A) where
    -- the values at the first n pairs are these
    abbrev pub ValuesAt : List ℤ → List ℤ → List A → ℕ → Type 0
    ValuesAt xs ys zs n = (k : ℕ) → k < n → binary_value dialect op (Int (get_or xs k (pos 0))) (Int (get_or ys k (pos 0))) ≡ Ok (said (get_or zs k none))

    abbrev pub Block : List ℤ → List ℤ → List A → ℕ → Type 0
    Block xs ys zs n = Pairs (int_signals (take n xs)) (int_signals (take n ys)) (values_said said (take n zs)) (3 * n)

    block_more : (xs ys : List ℤ) (zs : List A) (n : ℕ) → n < length xs → n < length ys → n < length zs →
        binary_value dialect op (Int (get_or xs n (pos 0))) (Int (get_or ys n (pos 0))) ≡ Ok (said (get_or zs n none)) → Block xs ys zs n →
        Block xs ys zs (n + 1)
    block_more xs ys zs n in_xs in_ys in_zs value made =
        let m = binary_machine in
        let p : Dialect × BinaryOperator = (dialect, op) in
        let x = get_or xs n (pos 0) in
        let y = get_or ys n (pos 0) in
        let z = get_or zs n none in
        let say = λ (k : ℤ). carry (int k) in
        let tell = λ (k : A). carry (cell_of_scalar (said k)) in
        let count : 3 * n + 3 ≡ 3 * (n + 1) = omega arith in
        let more = single_then m p (int_signals (take n xs)) (int_signals (take n ys)) (values_said said (take n zs)) (say x ∷ []) (say y ∷ []) (tell z ∷ []) made (pair x y (said z) value) in
        ran_as m p more (int_signals (take (n + 1) xs)) (int_signals (take (n + 1) ys)) (only (values_said said (take (n + 1) zs))) (3 * (n + 1))
        (one_more say xs n (pos 0) in_xs) (one_more say ys n (pos 0) in_ys) (λ q. ap (λ l. only l q) (one_more tell zs n none in_zs)) count

    -- pairs at which there are values are instances
    pub block : (xs ys : List ℤ) (zs : List A) (n : ℕ) → n ≤ length xs → n ≤ length ys → n ≤ length zs → ValuesAt xs ys zs n → Block xs ys zs n
    block xs ys zs zero in_xs in_ys in_zs values = single_none binary_machine (dialect, op) Start
    block xs ys zs (suc n) in_xs in_ys in_zs values =
        let is : n + 1 ≡ suc n = omega arith in
        subst (Block xs ys zs) is
        (block_more xs ys zs n (omega arith) (omega arith) (omega arith) (values n (omega arith))
        (block xs ys zs n (omega arith) (omega arith) (omega arith) (λ k below. values k (omega arith))))
