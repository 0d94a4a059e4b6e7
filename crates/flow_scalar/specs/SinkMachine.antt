-- The end of a stream that nothing uses, as a machine.
use Rattle.std.specs.Prelude.{false, Ok}
use Rattle.flow_messages.specs.declared.message.Kind.{Kind}
use Rattle.flow_messages.specs.declared.message.Kind.TheVariants.{Unit as UnitKind}
use Rattle.flow_base.specs.Machines.{Move, begins, on_kind, Machine}
use Rattle.flow_base.specs.Members.{NodeOf, node_of}
use Rattle.flow_base.specs.declared.node.Node.{Node}
use Rattle.flow_scalar.specs.Rows.{SinkRow}
use Rattle.flow_scalar.specs.declared.sink.Sink.{Sink}

-- an item of the kind is a whole instance
abbrev pub sink_move : Kind → Unit {0} → Move (Unit {0})
sink_move kind _ = begins (on_kind kind (λ _. Ok tt))

-- a worker for items of the kind
abbrev pub sink_machine : Machine Kind (Unit {0})
sink_machine = record {
  sample = UnitKind;
  move = sink_move;
  start = tt;
  row = λ kind i o. SinkRow kind (i 0);
  inputs = λ _. 1;
  outputs = λ _. 0;
  kind_in = λ kind _. kind;
  kind_out = λ kind _. kind;
  debt = λ _ _. 0;
  of_kind = λ _ _. Unit {0};
  in_range = λ _ _ _. Unit {0};
  takes_memory = λ _. false;
}

-- what the machine sees of a worker
abbrev pub sink_view : Sink → Kind × Unit {0}
sink_view n = (n.kind, tt)

-- the transducer that a node makes of it
abbrev pub sink_node : NodeOf (Node Sink)
sink_node = node_of sink_view sink_machine
