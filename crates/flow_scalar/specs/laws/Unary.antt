-- An operator on one scalar keeps to the laws of machines.
use Rattle.std.specs.Prelude.{◌≡◌, zero, suc, List, [], ◌∷◌, Option, Some, None, Ok, refl, ◌↔◌}
use Rattle.std.proofs.Common.{arith, sym, subst}
use Rattle.snesl_data.specs.declared.dialect.Dialect.{Dialect}
use Rattle.snesl_data.specs.operators.Operators.{unary_operand, unary_value}
use Rattle.snesl_data.specs.declared.operators.scalar.Scalar.{Scalar}
use Rattle.snesl_data.specs.declared.operators.operator.UnaryOperator.{UnaryOperator}
use Rattle.snesl_data.proofs.OfOperators.OperatorLaws.{unary_operand_type, unary_type, unary_range}
use Rattle.flow_messages.specs.Cells.{Cell}
use Rattle.flow_base.specs.Lists.{Lists}
use Rattle.flow_base.specs.Columns.{Columns, columns, push_column, rows_from}
use Rattle.flow_base.specs.Machines.{MachineLaws, SoundAt, Run, Runs}
use Rattle.flow_base.specs.MachineRuns.{Then, reading, writing, run_is}
use Rattle.flow_scalar.specs.Rows.{UnaryCase, UnaryRow, unary_reads, unary_writes}
use Rattle.flow_scalar.specs.OperandLaws.{operand_leads, operand_led, operand_of_kind, operand_of_range, value_leads, value_led, value_of}
use Rattle.flow_scalar.specs.Operands.{on_operand}
use Rattle.flow_folds.specs.OwnDialect.{own_read, own_write}
use Rattle.flow_folds.specs.Scalars.{cell_of_scalar}
use Rattle.flow_folds.specs.ScalarCells.{is_of-cell, cell_in_range}
use Rattle.flow_scalar.specs.UnaryMachine.{unary_next, unary_move, unary_in_range, unary_machine}

sound : (dialect : Dialect) (op : UnaryOperator) (value : Option Scalar) → SoundAt unary_machine (dialect, op) value (unary_move dialect op value)
sound dialect op None = (
  refl,
  (
    omega arith,
    refl,
    λ _. operand_of_kind (unary_operand op) (unary_next dialect op) (unary_machine.of_kind (dialect, op))
        (λ k _. value_of (unary_value dialect op k) Some (unary_machine.of_kind (dialect, op)) (unary_type dialect op k)),
    own_read unary_in_range dialect None (on_operand (unary_operand op) (unary_next dialect op))
        (λ _. operand_of_range dialect (unary_operand op) (unary_next dialect op) (unary_in_range dialect)
        (λ k _. value_of (unary_value dialect op k) Some (unary_in_range dialect) (unary_range dialect op k))),
  ),
)
sound dialect op (Some v) = (
  omega arith,
  omega arith,
  λ h. (is_of-cell v (unary_operand op) h, tt),
  own_write unary_in_range dialect (Some v) None (cell_of_scalar v) (λ h. (cell_in_range dialect v h, tt)),
)

runs : (dialect : Dialect) (op : UnaryOperator) (xs : List (UnaryCase dialect op)) → Runs unary_machine (dialect, op) None (unary_reads dialect op xs) (unary_writes dialect op xs)
runs dialect op [] = (zero, (refl, refl))
runs dialect op (x ∷ xs) =
    let g = runs dialect op xs in
    let P : Option Scalar → Type 0 = λ s. Run unary_machine (dialect, op) (suc g.0) s (unary_reads dialect op xs) (unary_writes dialect op (x ∷ xs)) in
    (suc (suc g.0), operand_leads (unary_operand op) (unary_next dialect op) x.0 P (unary_operand_type dialect op x.0 x.1 x.2) (value_leads (unary_value dialect op x.0) Some x.1 P x.2 (refl, g.1)))

-- what a run reads and writes
data Owes (dialect : Dialect) (op : UnaryOperator) : Option Scalar → Columns → Columns → Type 0 where
  start : (xs : List (UnaryCase dialect op)) → Owes dialect op None (unary_reads dialect op xs) (unary_writes dialect op xs)
  due : (v : Scalar) {i o : Columns} → Owes dialect op None i o → Owes dialect op (Some v) i (push_column 0 (cell_of_scalar v) o)

begun : (dialect : Dialect) (op : UnaryOperator) (k v : Scalar) (x : Cell) (i o : Columns) → x ≡ cell_of_scalar k → unary_value dialect op k ≡ Ok v →
    Owes dialect op (Some v) i o → Owes dialect op None (push_column 0 x i) o
begun dialect op k v x _ _ is e (due _ (start xs)) =
    subst (λ x. Owes dialect op None (push_column 0 x (unary_reads dialect op xs)) (unary_writes dialect op ((k, v, e) ∷ xs))) (sym is)
    (start ((k, v, e) ∷ xs))

earlier : (dialect : Dialect) (op : UnaryOperator) (s : Option Scalar) (x : Cell) (i o : Columns) →
    Then (λ next. Owes dialect op next i o) (unary_move dialect op s) x →
    Owes dialect op s (reading (unary_move dialect op s) x i) (writing (unary_move dialect op s) o)
earlier dialect op None x i o h =
    let P : Option Scalar → Type 0 = λ next. Owes dialect op next i o in
    let k = operand_led (unary_operand op) (unary_next dialect op) x P h in
    let v = value_led (unary_value dialect op k.0) Some P k.2 in
    begun dialect op k.0 v.0 x i o k.1 v.1 v.2
earlier dialect op (Some v) _ _ _ o = due v o

whole : {dialect : Dialect} {op : UnaryOperator} {i o : Columns} → Owes dialect op None i o → (xs : List (UnaryCase dialect op)) × (i ≡ unary_reads dialect op xs) × (o ≡ unary_writes dialect op xs)
whole (start xs) = (xs, refl, refl)

rows : (dialect : Dialect) (op : UnaryOperator) (i o : Lists Cell) → UnaryRow dialect op i o ↔ Runs unary_machine (dialect, op) None (columns 1 i) (columns 1 o)
rows dialect op i o =
    rows_from (unary_reads dialect op) (unary_writes dialect op) (Runs unary_machine (dialect, op) None) (runs dialect op)
    (λ i o r. whole (run_is unary_machine (dialect, op) (Owes dialect op) (sound dialect op) (start []) (earlier dialect op) None i o r)) 1 1 i o

pub unary_laws : MachineLaws unary_machine
unary_laws = record {
  sound = λ p. sound p.0 p.1;
  begins_at_start = λ _. refl;
  starts_of_kind = λ _. tt;
  rows = λ p i o. rows p.0 p.1 i o;
}
