-- An operator on two scalars keeps to the laws of machines.
use Rattle.std.specs.Prelude.{◌≡◌, zero, suc, List, [], ◌∷◌, map, Ok, refl, ◌↔◌}
use Rattle.std.proofs.Common.{arith, sym, subst}
use Rattle.snesl_data.specs.declared.dialect.Dialect.{Dialect}
use Rattle.snesl_data.specs.operators.Operators.{binary_operand, binary_result, binary_value}
use Rattle.snesl_data.specs.declared.operators.scalar.Scalar.{Scalar}
use Rattle.snesl_data.specs.declared.operators.operator.BinaryOperator.{BinaryOperator}
use Rattle.snesl_data.proofs.OfOperators.OperatorLaws.{binary_operand_types, binary_type, binary_range}
use Rattle.flow_messages.specs.Cells.{Cell}
use Rattle.flow_base.specs.Lists.{Lists}
use Rattle.flow_base.specs.Columns.{Columns, columns, push_column, rows_from}
use Rattle.flow_base.specs.Machines.{MachineLaws, SoundAt, Run, Runs}
use Rattle.flow_base.specs.MachineRuns.{Then, reading, writing, run_is}
use Rattle.flow_scalar.specs.Rows.{BinaryCase, BinaryRow, binary_reads, binary_writes}
use Rattle.flow_scalar.specs.OperandLaws.{operand_leads, operand_led, operand_of_kind, operand_of_range, value_leads, value_led, value_of}
use Rattle.flow_scalar.specs.Operands.{on_operand}
use Rattle.flow_folds.specs.OwnDialect.{own_read, own_write}
use Rattle.flow_folds.specs.Scalars.{cell_of_scalar}
use Rattle.flow_folds.specs.ScalarCells.{is_of-cell, cell_in_range}
use Rattle.flow_scalar.specs.declared.binary.Progress.{Progress}
use Rattle.flow_scalar.specs.declared.binary.Progress.TheVariants.{Start, Left, Value}
use Rattle.flow_scalar.specs.BinaryMachine.{binary_next, binary_move, binary_of_kind, binary_in_range, binary_machine}

sound : (dialect : Dialect) (op : BinaryOperator) (s : Progress) → SoundAt binary_machine (dialect, op) s (binary_move dialect op s)
sound dialect op Start = (
  refl,
  (
    omega arith,
    refl,
    λ _. operand_of_kind (binary_operand op) (λ a. Ok (Left a)) (binary_of_kind op) (λ a type. type),
    own_read binary_in_range dialect Start (on_operand (binary_operand op) (λ a. Ok (Left a)))
        (λ _. operand_of_range dialect (binary_operand op) (λ a. Ok (Left a)) (binary_in_range dialect) (λ a h. h)),
  ),
)
sound dialect op (Left a) = (
  omega arith,
  refl,
  λ _. operand_of_kind (binary_operand op) (binary_next dialect op a) (binary_of_kind op) (λ b _. value_of (binary_value dialect op a b) Value (binary_of_kind op) (binary_type dialect op a b)),
  own_read binary_in_range dialect (Left a) (on_operand (binary_operand op) (binary_next dialect op a))
      (λ h. operand_of_range dialect (binary_operand op) (binary_next dialect op a) (binary_in_range dialect)
      (λ b g. value_of (binary_value dialect op a b) Value (binary_in_range dialect) (binary_range dialect op a b h g))),
)
sound dialect op (Value v) = (
  omega arith,
  omega arith,
  λ h. (is_of-cell v (binary_result op) h, tt),
  own_write binary_in_range dialect (Value v) Start (cell_of_scalar v) (λ h. (cell_in_range dialect v h, tt)),
)

runs : (dialect : Dialect) (op : BinaryOperator) (xs : List (BinaryCase dialect op)) → Runs binary_machine (dialect, op) Start (binary_reads dialect op xs) (binary_writes dialect op xs)
runs dialect op [] = (zero, (refl, refl))
runs dialect op (x ∷ xs) =
    let g = runs dialect op xs in
    let types = binary_operand_types dialect op x.0 x.1 x.2 x.3 in
    let right : Progress → Type 0 = λ s. Run binary_machine (dialect, op) (suc g.0) s (binary_reads dialect op xs) (binary_writes dialect op (x ∷ xs)) in
    let left : Progress → Type 0 =
    λ s. Run binary_machine (dialect, op) (suc (suc g.0)) s (map (λ x. cell_of_scalar x.0) xs ∷ map (λ x. cell_of_scalar x.1) (x ∷ xs) ∷ [])
    (binary_writes dialect op (x ∷ xs)) in
    let valued = operand_leads (binary_operand op) (binary_next dialect op x.0) x.1 right types.1 (value_leads (binary_value dialect op x.0 x.1) Value x.2 right x.3 (refl, g.1)) in
    (suc (suc (suc g.0)), operand_leads (binary_operand op) (λ a. Ok (Left a)) x.0 left types.0 valued)

-- what a run reads and writes
data Owes (dialect : Dialect) (op : BinaryOperator) : Progress → Columns → Columns → Type 0 where
  start : (xs : List (BinaryCase dialect op)) → Owes dialect op Start (binary_reads dialect op xs) (binary_writes dialect op xs)
  left : (a b v : Scalar) → binary_value dialect op a b ≡ Ok v → (xs : List (BinaryCase dialect op)) →
      Owes dialect op (Left a) (push_column 1 (cell_of_scalar b) (binary_reads dialect op xs))
      (push_column 0 (cell_of_scalar v) (binary_writes dialect op xs))
  due : (v : Scalar) {i o : Columns} → Owes dialect op Start i o → Owes dialect op (Value v) i (push_column 0 (cell_of_scalar v) o)

begun : (dialect : Dialect) (op : BinaryOperator) (a : Scalar) (x : Cell) (i o : Columns) → x ≡ cell_of_scalar a → Owes dialect op (Left a) i o → Owes dialect op Start (push_column 0 x i) o
begun dialect op a x _ _ is (left _ b v e xs) =
    subst (λ x. Owes dialect op Start (push_column 0 x (push_column 1 (cell_of_scalar b) (binary_reads dialect op xs)))
    (binary_writes dialect op ((a, b, v, e) ∷ xs))) (sym is) (start ((a, b, v, e) ∷ xs))

gone_on : (dialect : Dialect) (op : BinaryOperator) (a b v : Scalar) (x : Cell) (i o : Columns) → x ≡ cell_of_scalar b → binary_value dialect op a b
    ≡ Ok v → Owes dialect op (Value v) i o → Owes dialect op (Left a) (push_column 1 x i) o
gone_on dialect op a b v x _ _ is e (due _ (start xs)) =
    subst (λ x. Owes dialect op (Left a) (push_column 1 x (binary_reads dialect op xs))
    (push_column 0 (cell_of_scalar v) (binary_writes dialect op xs))) (sym is) (left a b v e xs)

earlier : (dialect : Dialect) (op : BinaryOperator) (s : Progress) (x : Cell) (i o : Columns) →
    Then (λ next. Owes dialect op next i o) (binary_move dialect op s) x →
    Owes dialect op s (reading (binary_move dialect op s) x i) (writing (binary_move dialect op s) o)
earlier dialect op Start x i o h = let g = operand_led (binary_operand op) (λ a. Ok (Left a)) x (λ next. Owes dialect op next i o) h in begun dialect op g.0 x i o g.1 g.2
earlier dialect op (Left a) x i o h =
    let P : Progress → Type 0 = λ next. Owes dialect op next i o in
    let b = operand_led (binary_operand op) (binary_next dialect op a) x P h in
    let v = value_led (binary_value dialect op a b.0) Value P b.2 in
    gone_on dialect op a b.0 v.0 x i o b.1 v.1 v.2
earlier dialect op (Value v) _ _ _ o = due v o

whole : {dialect : Dialect} {op : BinaryOperator} {i o : Columns} → Owes dialect op Start i o → (xs : List (BinaryCase dialect op))
    × (i ≡ binary_reads dialect op xs) × (o ≡ binary_writes dialect op xs)
whole (start xs) = (xs, refl, refl)

rows : (dialect : Dialect) (op : BinaryOperator) (i o : Lists Cell) → BinaryRow dialect op i o ↔ Runs binary_machine (dialect, op) Start (columns 2 i) (columns 1 o)
rows dialect op i o =
    rows_from (binary_reads dialect op) (binary_writes dialect op) (Runs binary_machine (dialect, op) Start) (runs dialect op)
    (λ i o r. whole (run_is binary_machine (dialect, op) (Owes dialect op) (sound dialect op) (start []) (earlier dialect op) Start i o r)) 2 1 i o

pub binary_laws : MachineLaws binary_machine
binary_laws = record {
  sound = λ p. sound p.0 p.1;
  begins_at_start = λ _. refl;
  starts_of_kind = λ _. tt;
  rows = λ p i o. rows p.0 p.1 i o;
}
