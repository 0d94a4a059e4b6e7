-- An operator on two scalars, as a machine.
use Rattle.std.specs.Prelude.{◌≡◌, ℕ, ◌<◌, ℤ, pos, Bool, false, List, slice_index_or, Result, Ok}
use Rattle.snesl_data.specs.declared.dialect.Dialect.{Dialect}
use Rattle.snesl_data.specs.declared.dialect.Dialect.TheVariants.{One}
use Rattle.snesl_data.specs.declared.fault.FaultKind.{FaultKind}
use Rattle.snesl_data.specs.operators.Operators.{type_of, ScalarInRange, binary_operand, binary_result, binary_value}
use Rattle.snesl_data.specs.operators.Reductions.{and_then}
use Rattle.snesl_data.specs.declared.operators.scalar.Scalar.{Scalar}
use Rattle.snesl_data.specs.declared.operators.scalar.Scalar.TheVariants.{Int, Bool as Truth}
use Rattle.snesl_data.specs.declared.operators.operator.BinaryOperator.{BinaryOperator}
use Rattle.snesl_data.specs.declared.operators.operator.BinaryOperator.TheVariants.{Add}
use Rattle.flow_base.specs.Machines.{Move, begins, takes, gives, Machine, one_write}
use Rattle.flow_base.specs.Members.{NodeOf, node_of}
use Rattle.flow_base.specs.declared.node.Node.{Node}
use Rattle.flow_scalar.specs.Rows.{BinaryRow}
use Rattle.flow_scalar.specs.Operands.{on_operand}
use Rattle.flow_folds.specs.OwnDialect.{InOwn}
use Rattle.flow_folds.specs.Scalars.{kind_of_type, cell_of_scalar}
use Rattle.flow_scalar.specs.declared.binary.Progress.{Progress}
use Rattle.flow_scalar.specs.declared.binary.Progress.TheVariants.{Start, Left, Value}
use Rattle.flow_scalar.specs.declared.binary.Binary.{Binary}

-- after the left operand, the right one leads to their value
abbrev pub binary_next : Dialect → BinaryOperator → Scalar → Scalar → Result Progress FaultKind
binary_next dialect op a b = and_then (binary_value dialect op a b) (λ v. Ok (Value v))

-- the left operand begins an instance, the right one goes on, and then the value is written
abbrev pub binary_move : Dialect → BinaryOperator → Progress → Move Progress
binary_move dialect op Start = begins (on_operand (binary_operand op) (λ a. Ok (Left a)))
binary_move dialect op (Left a) = takes 1 (on_operand (binary_operand op) (binary_next dialect op a))
binary_move dialect op (Value v) = gives 0 (cell_of_scalar v) Start

-- what is held is of the operator's type
abbrev pub binary_of_kind : BinaryOperator → Progress → Type 0
binary_of_kind op Start = Unit {0}
binary_of_kind op (Left a) = type_of a ≡ binary_operand op
binary_of_kind op (Value v) = type_of v ≡ binary_result op

-- what is held lies in the range of the dialect
abbrev pub binary_in_range : Dialect → Progress → Type 0
binary_in_range dialect Start = Unit {0}
binary_in_range dialect (Left a) = ScalarInRange dialect a
binary_in_range dialect (Value v) = ScalarInRange dialect v

-- the worker of an operator on two scalars, with the dialect that it computes in
abbrev pub binary_machine : Machine (Dialect × BinaryOperator) Progress
binary_machine = record {
  sample = (One, Add);
  move = λ p. binary_move p.0 p.1;
  start = Start;
  row = λ p. BinaryRow p.0 p.1;
  inputs = λ _. 2;
  outputs = λ _. 1;
  kind_in = λ p _. kind_of_type (binary_operand p.1);
  kind_out = λ p _. kind_of_type (binary_result p.1);
  debt = λ p s. one_write (binary_move p.0 p.1 s);
  of_kind = λ p. binary_of_kind p.1;
  in_range = λ dialect p. InOwn binary_in_range p.0 dialect;
  takes_memory = λ _. false;
}

-- what the machine sees of a worker
abbrev pub binary_view : Binary → (Dialect × BinaryOperator) × Progress
binary_view n = ((n.dialect, n.operator), n.progress)

-- the values at the first n pairs of these integers are these integers
abbrev pub IntsAt : Dialect → BinaryOperator → List ℤ → List ℤ → List ℤ → ℕ → Type 0
IntsAt dialect op xs ys zs n = (k : ℕ) → k < n → binary_value dialect op (Int (slice_index_or xs k (pos 0))) (Int (slice_index_or ys k (pos 0))) ≡ Ok (Int (slice_index_or zs k (pos 0)))

-- the values at the first n pairs of these integers are these truth values
abbrev pub FlagsAt : Dialect → BinaryOperator → List ℤ → List ℤ → List Bool → ℕ → Type 0
FlagsAt dialect op xs ys zs n = (k : ℕ) → k < n → binary_value dialect op (Int (slice_index_or xs k (pos 0))) (Int (slice_index_or ys k (pos 0))) ≡ Ok (Truth (slice_index_or zs k false))

-- the transducer that a node makes of it
abbrev pub binary_node : NodeOf (Node Binary)
binary_node = node_of binary_view binary_machine
