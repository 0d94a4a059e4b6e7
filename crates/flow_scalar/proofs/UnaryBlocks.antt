-- Steps of an operator on one scalar, along operands.
use Rattle.std.proofs.Common.{◌≡◌, ℕ, ℤ, zero, suc, ◌+◌, ◌*◌, ◌<◌, ◌≤◌, Bool, List, [], ◌∷◌, length, take, get_or, Some, None, Ok, refl, ◌∙◌, ap, subst, arith}
use Rattle.snesl_data.specs.declared.dialect.Dialect.{Dialect}
use Rattle.snesl_data.specs.operators.Operators.{unary_operand, unary_value}
use Rattle.snesl_data.specs.operators.Reductions.{and_then}
use Rattle.snesl_data.specs.declared.operators.scalar.Scalar.{Scalar}
use Rattle.snesl_data.specs.declared.operators.scalar.Scalar.TheVariants.{Int, Bool as Truth}
use Rattle.snesl_data.specs.declared.operators.operator.UnaryOperator.{UnaryOperator}
use Rattle.snesl_data.specs.declared.operators.operator.UnaryOperator.TheVariants.{Negate, Not}
use Rattle.flow_messages.specs.Blocks.{flag_signals, int_signals}
use Rattle.flow_messages.specs.Signals.{Signal, carry}
use Rattle.flow_base.specs.Along.{written_signals}
use Rattle.flow_base.specs.Machines.{state_after_item}
use Rattle.flow_base.proofs.Along.{Single, only, ran_as, single_none, single_first, single_write, single_then}
use Rattle.flow_scalar.specs.Operands.{operand_in, on_operand}
use Rattle.flow_folds.specs.Scalars.{kind_of_type, cell_of_scalar}
use Rattle.flow_scalar.specs.UnaryMachine.{unary_next, unary_machine, IntsAt, FlagsAt}
use Rattle.flow_scalar.proofs.Leading.{operand_taken}
use Rattle.flow_scalar.proofs.ValueBlocks.{values_said, one_more}

-- what has a value at an operand takes it
takes_it : (dialect : Dialect) (op : UnaryOperator) (x v : Scalar) → unary_value dialect op x ≡ Ok v → operand_in (unary_operand op) (cell_of_scalar x) ≡ Ok x
takes_it dialect Negate (Int n) v e = refl
takes_it dialect Negate (Truth b) v e = absurd (cc)
takes_it dialect Not (Int n) v e = absurd (cc)
takes_it dialect Not (Truth b) v e = refl

-- integers are what is written where there is a value at an integer, and truth values where there is one at a truth value
pub ints_written : (dialect : Dialect) (op : UnaryOperator) (xs zs : List ℤ) (flags : List Bool) (n : ℕ) → IntsAt dialect op xs zs n →
    int_signals (take n zs) ≡ written_signals (record { flags = flags; ints = zs }) (record { first = n; second = 0; units = 0; flags = 0; ints = n; steps = 2 * n }) (kind_of_type (unary_operand op))
ints_written dialect Negate xs zs flags n values = refl
ints_written dialect Not xs zs flags zero values = refl
ints_written dialect Not xs zs flags (suc n) values = absurd (let no = values 0 (omega arith) in cc)

pub flags_written : (dialect : Dialect) (op : UnaryOperator) (xs zs : List Bool) (ints : List ℤ) (n : ℕ) → FlagsAt dialect op xs zs n →
    flag_signals (take n zs) ≡ written_signals (record { flags = zs; ints = ints }) (record { first = n; second = 0; units = 0; flags = n; ints = 0; steps = 2 * n }) (kind_of_type (unary_operand op))
flags_written dialect Not xs zs ints n values = refl
flags_written dialect Negate xs zs ints zero values = refl
flags_written dialect Negate xs zs ints (suc n) values = absurd (let no = values 0 (omega arith) in cc)

module _ (dialect : Dialect) (op : UnaryOperator) where
  -- steps that read these operands and write these values
  abbrev Ones : List Signal → List Signal → ℕ → Type 0
  Ones xs zs n = Single unary_machine (dialect, op) None None xs [] zs n

  -- an operand at which there is a value is an instance
  one_value : (x v : Scalar) → unary_value dialect op x ≡ Ok v → Ones (carry (cell_of_scalar x) ∷ []) (carry (cell_of_scalar v) ∷ []) 2
  one_value x v e =
      let m = unary_machine in
      let p : Dialect × UnaryOperator = (dialect, op) in
      let type = unary_operand op in
      let begin = on_operand type (unary_next dialect op) in
      let leads : state_after_item begin (cell_of_scalar x) ≡ Ok (Some v) =
      operand_taken type (unary_next dialect op) (cell_of_scalar x) x (takes_it dialect op x v e) ∙ ap (λ r. and_then r (λ k. Ok (Some k))) e in
      let read = single_first m p None (Some v) (cell_of_scalar x) refl leads in
      let wrote = single_write m p (Some v) None (cell_of_scalar v) refl refl refl in
      single_then m p (carry (cell_of_scalar x) ∷ []) [] [] [] [] (carry (cell_of_scalar v) ∷ []) read wrote

  module _ {A : Type 0} (said : A → Scalar) (none : A) where
    -- the values at the first n operands are these
    abbrev pub ValuesAt : List A → List A → ℕ → Type 0
    ValuesAt xs zs n = (k : ℕ) → k < n → unary_value dialect op (said (get_or xs k none)) ≡ Ok (said (get_or zs k none))

    abbrev pub Block : List A → List A → ℕ → Type 0
    Block xs zs n = Ones (values_said said (take n xs)) (values_said said (take n zs)) (2 * n)

    block_more : (xs zs : List A) (n : ℕ) → n < length xs → n < length zs → unary_value dialect op (said (get_or xs n none)) ≡ Ok (said (get_or zs n none)) → Block xs zs n → Block xs zs (n + 1)
    block_more xs zs n in_xs in_zs value made =
        let m = unary_machine in
        let p : Dialect × UnaryOperator = (dialect, op) in
        let tell = λ (k : A). carry (cell_of_scalar (said k)) in
        let x = get_or xs n none in
        let z = get_or zs n none in
        let count : 2 * n + 2 ≡ 2 * (n + 1) = omega arith in
        let more = single_then m p (values_said said (take n xs)) [] (values_said said (take n zs)) (tell x ∷ []) [] (tell z ∷ []) made (one_value (said x) (said z) value) in
        ran_as m p more (values_said said (take (n + 1) xs)) [] (only (values_said said (take (n + 1) zs))) (2 * (n + 1))
        (one_more tell xs n none in_xs) refl (λ q. ap (λ l. only l q) (one_more tell zs n none in_zs)) count

    -- operands at which there are values are instances
    pub block : (xs zs : List A) (n : ℕ) → n ≤ length xs → n ≤ length zs → ValuesAt xs zs n → Block xs zs n
    block xs zs zero in_xs in_zs values = single_none unary_machine (dialect, op) None
    block xs zs (suc n) in_xs in_zs values =
        let is : n + 1 ≡ suc n = omega arith in
        subst (Block xs zs) is (block_more xs zs n (omega arith) (omega arith) (values n (omega arith)) (block xs zs n (omega arith) (omega arith) (λ k below. values k (omega arith))))
