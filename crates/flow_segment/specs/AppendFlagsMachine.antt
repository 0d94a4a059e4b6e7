-- Segments joined to segments, place by place: the machine.
use Rattle.std.specs.Prelude.{Ok}
use Rattle.flow_base.specs.Flags.{F, T}
use Rattle.flow_base.specs.Machines.{on_flag, Move, begins, takes, gives, Machine, one_write}
use Rattle.flow_segment.specs.FlagTables.{FlagTable, over_flags, FlagNode, flag_node}
use Rattle.flow_segment.specs.Rows.{AppendFlagsRow}
use Rattle.flow_segment.specs.declared.append_flags.AppendFlagsStage.{AppendFlagsStage}
use Rattle.flow_segment.specs.declared.append_flags.AppendFlagsStage.TheVariants.{Start, First, Second, FirstElement, SecondElement, End}

-- flags of the first segment come at port 0, and those of the second at port 1: each F is written, T of the first
-- leads to the second, and T of the second ends both
abbrev pub append_flags_move : AppendFlagsStage → Move AppendFlagsStage
append_flags_move Start = begins (on_flag (Ok FirstElement) (Ok Second))
append_flags_move First = takes 0 (on_flag (Ok FirstElement) (Ok Second))
append_flags_move Second = takes 1 (on_flag (Ok SecondElement) (Ok End))
append_flags_move FirstElement = gives 0 F First
append_flags_move SecondElement = gives 0 F Second
append_flags_move End = gives 0 T Start

-- what the worker does, as a table
abbrev pub append_flags_table : FlagTable AppendFlagsStage
append_flags_table = record { move = append_flags_move; start = Start; row = AppendFlagsRow; inputs = 2; outputs = 1; debt = λ s. one_write (append_flags_move s) }

-- the same as a machine
abbrev pub append_flags_machine : Machine (Unit {0}) AppendFlagsStage
append_flags_machine = over_flags append_flags_table

-- the transducer that a node makes of it
abbrev pub append_flags_node : FlagNode AppendFlagsStage
append_flags_node = flag_node append_flags_table
