-- An item for each element of a segment: the machine.
use Rattle.std.specs.Prelude.{◌≡◌, ℕ, zero, true, false, Bool, Option, Some, None, Ok}
use Rattle.snesl_data.specs.declared.dialect.Dialect.{Dialect}
use Rattle.flow_messages.specs.Cells.{Cell, cell_of, is_of}
use Rattle.flow_messages.specs.declared.message.Item.{Item}
use Rattle.flow_messages.specs.declared.message.Kind.{Kind}
use Rattle.flow_messages.specs.declared.message.Kind.TheVariants.{Bool as BoolKind, Vec as VecKind, Unit as UnitKind}
use Rattle.flow_base.specs.Ranges.{CellInRange}
use Rattle.flow_base.specs.Machines.{on_flag, on_kind, Move, begins, takes, gives, Machine, one_write}
use Rattle.flow_base.specs.Members.{NodeOf, node_of}
use Rattle.flow_base.specs.declared.node.Node.{Node}
use Rattle.flow_segment.specs.Rows.{DistRow}
use Rattle.flow_segment.specs.declared.dist.Dist.{Dist}

-- how far an item and its segment are, and what the item carries: before the item, before a flag, or before a copy
pub data DistState : Type 0 where
  at_start : DistState
  at_flag : Cell → DistState
  at_copy : Cell → DistState

-- how far a worker is that holds this item, with a copy to be written or not
abbrev pub dist_state : Option Item → Bool → DistState
dist_state None _ = at_start
dist_state (Some item) false = at_flag (cell_of item)
dist_state (Some item) true = at_copy (cell_of item)

-- an item begins an instance, then flags are due, each F with a copy of the item
abbrev pub dist_move : Kind → DistState → Move DistState
dist_move kind at_start = begins (on_kind kind (λ x. Ok (at_flag x)))
dist_move kind (at_flag x) = takes 1 (on_flag (Ok (at_copy x)) (Ok at_start))
dist_move kind (at_copy x) = gives 0 x (at_flag x)

-- items of the kind, then flags
abbrev pub dist_kind_in : Kind → ℕ → Kind
dist_kind_in kind zero = kind
dist_kind_in kind _ = BoolKind

-- what is held is of the kind
abbrev pub dist_of_kind : Kind → DistState → Type 0
dist_of_kind kind at_start = Unit {0}
dist_of_kind kind (at_flag x) = is_of kind x ≡ true
dist_of_kind kind (at_copy x) = is_of kind x ≡ true

-- what is held is in the range of the dialect
abbrev pub dist_in_range : Dialect → DistState → Type 0
dist_in_range dialect at_start = Unit {0}
dist_in_range dialect (at_flag x) = CellInRange dialect x
dist_in_range dialect (at_copy x) = CellInRange dialect x

-- a copy of a vector may take memory
abbrev pub dist_takes_memory : DistState → Bool
dist_takes_memory (at_copy x) = is_of VecKind x
dist_takes_memory _ = false

-- what the worker does
abbrev pub dist_machine : Machine Kind DistState
dist_machine = record {
  sample = UnitKind;
  move = dist_move;
  start = at_start;
  row = λ kind i o. DistRow kind (i 0) (i 1) (o 0);
  inputs = λ _. 2;
  outputs = λ _. 1;
  kind_in = dist_kind_in;
  kind_out = λ kind _. kind;
  debt = λ kind s. one_write (dist_move kind s);
  of_kind = dist_of_kind;
  in_range = λ dialect _. dist_in_range dialect;
  takes_memory = dist_takes_memory;
}

-- what the machine sees of a worker
abbrev pub dist_view : Dist → Kind × DistState
dist_view n = (n.kind, dist_state n.held n.copies)

-- the transducer that a node makes of it
abbrev pub dist_node : NodeOf (Node Dist)
dist_node = node_of dist_view dist_machine
