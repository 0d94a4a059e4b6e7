-- Two streams of the same flags: the machine.
use Rattle.std.specs.Prelude.{true, false, Ok, Err}
use Rattle.snesl_data.specs.declared.fault.FaultKind.TheVariants.{Length}
use Rattle.flow_base.specs.Machines.{on_flag, Move, begins, takes, Machine}
use Rattle.flow_segment.specs.FlagTables.{FlagTable, over_flags, FlagNode, flag_node}
use Rattle.flow_segment.specs.Rows.{SameFlagsRow}
use Rattle.flow_segment.specs.declared.same_flags.SameFlagsStage.{SameFlagsStage}
use Rattle.flow_segment.specs.declared.same_flags.SameFlagsStage.TheVariants.{Start, Second}

-- a flag of the first stream begins an instance, and the same flag of the second is due
abbrev pub same_flags_move : SameFlagsStage → Move SameFlagsStage
same_flags_move Start = begins (on_flag (Ok (Second false)) (Ok (Second true)))
same_flags_move (Second false) = takes 1 (on_flag (Ok Start) (Err Length))
same_flags_move (Second true) = takes 1 (on_flag (Err Length) (Ok Start))

-- what the worker does, as a table
abbrev pub same_flags_table : FlagTable SameFlagsStage
same_flags_table = record { move = same_flags_move; start = Start; row = SameFlagsRow; inputs = 2; outputs = 0; debt = λ _. 0 }

-- the same as a machine
abbrev pub same_flags_machine : Machine (Unit {0}) SameFlagsStage
same_flags_machine = over_flags same_flags_table

-- the transducer that a node makes of it
abbrev pub same_flags_node : FlagNode SameFlagsStage
same_flags_node = flag_node same_flags_table
