-- The segments that are to be kept: the machine.
use Rattle.std.specs.Prelude.{true, false, Ok}
use Rattle.flow_base.specs.Flags.{F, T}
use Rattle.flow_base.specs.Machines.{on_flag, Move, begins, takes, gives, Machine, one_write}
use Rattle.flow_segment.specs.FlagTables.{FlagTable, over_flags, FlagNode, flag_node}
use Rattle.flow_segment.specs.Rows.{PackGroupsRow}
use Rattle.flow_segment.specs.declared.pack_groups.PackGroupsStage.{PackGroupsStage}
use Rattle.flow_segment.specs.declared.pack_groups.PackGroupsStage.TheVariants.{Start, Flag, Element, End}

-- a truth value begins an instance, then flags are due, each with its copy where the segment is kept
abbrev pub pack_groups_move : PackGroupsStage → Move PackGroupsStage
pack_groups_move Start = begins (on_flag (Ok (Flag false)) (Ok (Flag true)))
pack_groups_move (Flag true) = takes 1 (on_flag (Ok Element) (Ok End))
pack_groups_move (Flag false) = takes 1 (on_flag (Ok (Flag false)) (Ok Start))
pack_groups_move Element = gives 0 F (Flag true)
pack_groups_move End = gives 0 T Start

-- what the worker does, as a table
abbrev pub pack_groups_table : FlagTable PackGroupsStage
pack_groups_table = record { move = pack_groups_move; start = Start; row = PackGroupsRow; inputs = 2; outputs = 1; debt = λ s. one_write (pack_groups_move s) }

-- the same as a machine
abbrev pub pack_groups_machine : Machine (Unit {0}) PackGroupsStage
pack_groups_machine = over_flags pack_groups_table

-- the transducer that a node makes of it
abbrev pub pack_groups_node : FlagNode PackGroupsStage
pack_groups_node = flag_node pack_groups_table
