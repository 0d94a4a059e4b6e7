-- A constant, once for each item, as a machine.
use Rattle.std.specs.Prelude.{Bool, true, false, Ok}
use Rattle.snesl_data.specs.operators.Operators.{type_of}
use Rattle.snesl_data.specs.declared.operators.scalar.Scalar.{Scalar}
use Rattle.snesl_data.specs.declared.operators.scalar.Scalar.TheVariants.{Bool as BoolScalar}
use Rattle.flow_messages.specs.declared.message.Kind.TheVariants.{Unit as UnitKind}
use Rattle.flow_base.specs.Machines.{Move, begins, gives, on_kind, Machine, one_write}
use Rattle.flow_base.specs.Members.{NodeOf, node_of}
use Rattle.flow_base.specs.declared.node.Node.{Node}
use Rattle.flow_scalar.specs.Rows.{ConstRow}
use Rattle.flow_folds.specs.Scalars.{kind_of_type, cell_of_scalar, ScalarInRange}
use Rattle.flow_scalar.specs.declared.constant.Const.{Const}

-- whether the constant is due: a Unit begins an instance, and makes it so
abbrev pub const_move : Scalar → Bool → Move Bool
const_move k false = begins (on_kind UnitKind (λ _. Ok true))
const_move k true = gives 0 (cell_of_scalar k) false

-- the worker of a constant
abbrev pub const_machine : Machine Scalar Bool
const_machine = record {
  sample = BoolScalar false;
  move = const_move;
  start = false;
  row = ConstRow;
  inputs = λ _. 1;
  outputs = λ _. 1;
  kind_in = λ _ _. UnitKind;
  kind_out = λ k _. kind_of_type (type_of k);
  debt = λ k due. one_write (const_move k due);
  of_kind = λ _ _. Unit {0};
  in_range = λ dialect k _. ScalarInRange dialect k;
  takes_memory = λ _. false;
}

-- what the machine sees of a worker
abbrev pub const_view : Const → Scalar × Bool
const_view n = (n.scalar, n.due)

-- the transducer that a node makes of it
abbrev pub const_node : NodeOf (Node Const)
const_node = node_of const_view const_machine
