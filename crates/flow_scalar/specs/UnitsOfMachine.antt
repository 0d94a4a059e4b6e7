-- A Unit for each element that flags stand for, as a machine.
use Rattle.std.specs.Prelude.{Bool, true, false, Ok}
use Rattle.flow_messages.specs.Cells.{unit}
use Rattle.flow_messages.specs.declared.message.Kind.TheVariants.{Unit as UnitKind, Bool as BoolKind}
use Rattle.flow_base.specs.Machines.{Move, begins, gives, on_flag, Machine, one_write}
use Rattle.flow_base.specs.Members.{NodeOf, node_of}
use Rattle.flow_base.specs.declared.node.Node.{Node}
use Rattle.flow_scalar.specs.Rows.{UnitsOfRow}
use Rattle.flow_scalar.specs.declared.units_of.UnitsOf.{UnitsOf}

-- whether a Unit is due: a flag begins an instance, and F makes it so
abbrev pub units_of_move : Bool → Move Bool
units_of_move false = begins (on_flag (Ok true) (Ok false))
units_of_move true = gives 0 unit false

-- the worker that writes Units
abbrev pub units_of_machine : Machine (Unit {0}) Bool
units_of_machine = record {
  sample = tt;
  move = λ _. units_of_move;
  start = false;
  row = λ _. UnitsOfRow;
  inputs = λ _. 1;
  outputs = λ _. 1;
  kind_in = λ _ _. BoolKind;
  kind_out = λ _ _. UnitKind;
  debt = λ _ due. one_write (units_of_move due);
  of_kind = λ _ _. Unit {0};
  in_range = λ _ _ _. Unit {0};
  takes_memory = λ _. false;
}

-- what the machine sees of a worker
abbrev pub units_of_view : UnitsOf → Unit {0} × Bool
units_of_view n = (tt, n.due)

-- the transducer that a node makes of it
abbrev pub units_of_node : NodeOf (Node UnitsOf)
units_of_node = node_of units_of_view units_of_machine
