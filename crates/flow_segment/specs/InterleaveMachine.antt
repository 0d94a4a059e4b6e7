-- Two sequences of segments, joined place by place: the machine.
use Rattle.std.specs.Prelude.{◌≡◌, ℕ, zero, suc, true, false, Bool, Ok}
use Rattle.snesl_data.specs.declared.dialect.Dialect.{Dialect}
use Rattle.flow_messages.specs.Cells.{Cell, cell_of, is_of}
use Rattle.flow_messages.specs.declared.message.Kind.{Kind}
use Rattle.flow_messages.specs.declared.message.Kind.TheVariants.{Bool as BoolKind, Unit as UnitKind}
use Rattle.flow_base.specs.Ranges.{CellInRange}
use Rattle.flow_base.specs.Machines.{Taking, Move, begins, takes, gives, on_flag, on_kind, Machine, one_write}
use Rattle.flow_base.specs.Members.{NodeOf, node_of}
use Rattle.flow_base.specs.declared.node.Node.{Node}
use Rattle.flow_segment.specs.Rows.{InterleaveRow}
use Rattle.flow_segment.specs.declared.interleave.Side.{Side}
use Rattle.flow_segment.specs.declared.interleave.Side.TheVariants.{Left, Right}
use Rattle.flow_segment.specs.declared.interleave.Turn.{Turn}
use Rattle.flow_segment.specs.declared.interleave.Turn.TheVariants.{Start, Flag, Item as AtItem, Copy}
use Rattle.flow_segment.specs.declared.interleave.Interleave.{Interleave}

-- how far a pair of segments is, and what the item carries that is to be written
pub data InterleaveState : Type 0 where
  at_start : InterleaveState
  at_flag : Side → InterleaveState
  at_item : Side → InterleaveState
  at_copy : Side → Cell → InterleaveState

-- how far this turn is
abbrev pub interleave_state : Turn → InterleaveState
interleave_state Start = at_start
interleave_state (Flag side) = at_flag side
interleave_state (AtItem side) = at_item side
interleave_state (Copy side item) = at_copy side (cell_of item)

-- F leads to an item of its side, T of the left to the right, and T of the right ends the pair
abbrev pub after_flag : Side → Bool → InterleaveState
after_flag side false = at_item side
after_flag Left true = at_flag Right
after_flag Right true = at_start

-- where a flag of the side leads
abbrev pub flag_of : Side → Taking InterleaveState
flag_of side = on_flag (Ok (after_flag side false)) (Ok (after_flag side true))

-- a flag of the left begins an instance; each side has a port for its flags and one for its items, which are copied
abbrev pub interleave_move : Kind → InterleaveState → Move InterleaveState
interleave_move kind at_start = begins (flag_of Left)
interleave_move kind (at_flag Left) = takes 0 (flag_of Left)
interleave_move kind (at_flag Right) = takes 1 (flag_of Right)
interleave_move kind (at_item Left) = takes 2 (on_kind kind (λ x. Ok (at_copy Left x)))
interleave_move kind (at_item Right) = takes 3 (on_kind kind (λ x. Ok (at_copy Right x)))
interleave_move kind (at_copy side x) = gives 0 x (at_flag side)

-- flags at the first two ports, then items of the kind
abbrev pub interleave_kind_in : Kind → ℕ → Kind
interleave_kind_in kind zero = BoolKind
interleave_kind_in kind (suc zero) = BoolKind
interleave_kind_in kind _ = kind

-- what is to be written is of the kind
abbrev pub interleave_of_kind : Kind → InterleaveState → Type 0
interleave_of_kind kind (at_copy side x) = is_of kind x ≡ true
interleave_of_kind kind _ = Unit {0}

-- what is to be written is in the range of the dialect
abbrev pub interleave_in_range : Dialect → Kind → InterleaveState → Type 0
interleave_in_range dialect kind (at_copy side x) = CellInRange dialect x
interleave_in_range dialect kind _ = Unit {0}

-- what the worker does
abbrev pub interleave_machine : Machine Kind InterleaveState
interleave_machine = record {
  sample = UnitKind;
  move = interleave_move;
  start = at_start;
  row = InterleaveRow;
  inputs = λ _. 4;
  outputs = λ _. 1;
  kind_in = interleave_kind_in;
  kind_out = λ kind _. kind;
  debt = λ kind s. one_write (interleave_move kind s);
  of_kind = interleave_of_kind;
  in_range = interleave_in_range;
  takes_memory = λ _. false;
}

-- what the machine sees of a worker
abbrev pub interleave_view : Interleave → Kind × InterleaveState
interleave_view n = (n.kind, interleave_state n.turn)

-- the transducer that a node makes of it
abbrev pub interleave_node : NodeOf (Node Interleave)
interleave_node = node_of interleave_view interleave_machine
