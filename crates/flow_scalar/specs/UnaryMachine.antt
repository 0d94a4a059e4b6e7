-- An operator on one scalar, as a machine.
use Rattle.std.specs.Prelude.{◌≡◌, ℕ, ◌<◌, ℤ, pos, Bool, false, List, slice_index_or, Option, Some, None, IfSome, Result, Ok}
use Rattle.snesl_data.specs.declared.dialect.Dialect.{Dialect}
use Rattle.snesl_data.specs.declared.dialect.Dialect.TheVariants.{One}
use Rattle.snesl_data.specs.declared.fault.FaultKind.{FaultKind}
use Rattle.snesl_data.specs.operators.Operators.{type_of, ScalarInRange, unary_operand, unary_value}
use Rattle.snesl_data.specs.operators.Reductions.{and_then}
use Rattle.snesl_data.specs.declared.operators.scalar.Scalar.{Scalar}
use Rattle.snesl_data.specs.declared.operators.scalar.Scalar.TheVariants.{Int, Bool as Truth}
use Rattle.snesl_data.specs.declared.operators.operator.UnaryOperator.{UnaryOperator}
use Rattle.snesl_data.specs.declared.operators.operator.UnaryOperator.TheVariants.{Not}
use Rattle.flow_base.specs.Machines.{Move, begins, gives, Machine, one_write}
use Rattle.flow_base.specs.Members.{NodeOf, node_of}
use Rattle.flow_base.specs.declared.node.Node.{Node}
use Rattle.flow_scalar.specs.Rows.{UnaryRow}
use Rattle.flow_scalar.specs.Operands.{on_operand}
use Rattle.flow_folds.specs.OwnDialect.{InOwn}
use Rattle.flow_folds.specs.Scalars.{kind_of_type, cell_of_scalar}
use Rattle.flow_scalar.specs.declared.unary.Unary.{Unary}

-- an operand leads to its value
abbrev pub unary_next : Dialect → UnaryOperator → Scalar → Result (Option Scalar) FaultKind
unary_next dialect op k = and_then (unary_value dialect op k) (λ v. Ok (Some v))

-- the value that is due, if there is one: an operand begins an instance, and then its value is written
abbrev pub unary_move : Dialect → UnaryOperator → Option Scalar → Move (Option Scalar)
unary_move dialect op None = begins (on_operand (unary_operand op) (unary_next dialect op))
unary_move dialect op (Some v) = gives 0 (cell_of_scalar v) None

-- the value lies in the range of the dialect
abbrev pub unary_in_range : Dialect → Option Scalar → Type 0
unary_in_range dialect value = IfSome value (ScalarInRange dialect)

-- the worker of an operator on one scalar, with the dialect that it computes in
abbrev pub unary_machine : Machine (Dialect × UnaryOperator) (Option Scalar)
unary_machine = record {
  sample = (One, Not);
  move = λ p. unary_move p.0 p.1;
  start = None;
  row = λ p. UnaryRow p.0 p.1;
  inputs = λ _. 1;
  outputs = λ _. 1;
  kind_in = λ p _. kind_of_type (unary_operand p.1);
  kind_out = λ p _. kind_of_type (unary_operand p.1);
  debt = λ p value. one_write (unary_move p.0 p.1 value);
  of_kind = λ p value. IfSome value (λ v. type_of v ≡ unary_operand p.1);
  in_range = λ dialect p. InOwn unary_in_range p.0 dialect;
  takes_memory = λ _. false;
}

-- what the machine sees of a worker
abbrev pub unary_view : Unary → (Dialect × UnaryOperator) × Option Scalar
unary_view n = ((n.dialect, n.operator), n.value)

-- the values at the first n of these integers are these
abbrev pub IntsAt : Dialect → UnaryOperator → List ℤ → List ℤ → ℕ → Type 0
IntsAt dialect op xs zs n = (k : ℕ) → k < n → unary_value dialect op (Int (slice_index_or xs k (pos 0))) ≡ Ok (Int (slice_index_or zs k (pos 0)))

-- the values at the first n of these truth values are these
abbrev pub FlagsAt : Dialect → UnaryOperator → List Bool → List Bool → ℕ → Type 0
FlagsAt dialect op xs zs n = (k : ℕ) → k < n → unary_value dialect op (Truth (slice_index_or xs k false)) ≡ Ok (Truth (slice_index_or zs k false))

-- the transducer that a node makes of it
abbrev pub unary_node : NodeOf (Node Unary)
unary_node = node_of unary_view unary_machine
