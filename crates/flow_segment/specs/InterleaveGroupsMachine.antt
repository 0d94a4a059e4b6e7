-- Two sequences of segments of segments, joined place by place: the machine.
use Rattle.std.specs.Prelude.{Ok}
use Rattle.flow_base.specs.Flags.{F, T}
use Rattle.flow_base.specs.Machines.{Move, begins, takes, gives, on_flag, Machine, one_write}
use Rattle.flow_segment.specs.FlagTables.{FlagTable, over_flags, FlagNode, flag_node}
use Rattle.flow_segment.specs.Rows.{InterleaveGroupsRow}
use Rattle.flow_segment.specs.declared.interleave_groups.InterleaveGroupsStage.{InterleaveGroupsStage}
use Rattle.flow_segment.specs.declared.interleave_groups.InterleaveGroupsStage.TheVariants.{Start, Left, LeftGroup, LeftElement, LeftEnd, Right, RightGroup, RightElement, RightEnd}

-- A flag of the left begins an instance; each side has a port for its flags and one for its groups. F of a side leads to
-- a group of it, whose flags are written; T of the left leads to the right, and T of the right ends the pair.
abbrev pub interleave_groups_move : InterleaveGroupsStage → Move InterleaveGroupsStage
interleave_groups_move Start = begins (on_flag (Ok LeftGroup) (Ok Right))
interleave_groups_move Left = takes 0 (on_flag (Ok LeftGroup) (Ok Right))
interleave_groups_move LeftGroup = takes 2 (on_flag (Ok LeftElement) (Ok LeftEnd))
interleave_groups_move LeftElement = gives 0 F LeftGroup
interleave_groups_move LeftEnd = gives 0 T Left
interleave_groups_move Right = takes 1 (on_flag (Ok RightGroup) (Ok Start))
interleave_groups_move RightGroup = takes 3 (on_flag (Ok RightElement) (Ok RightEnd))
interleave_groups_move RightElement = gives 0 F RightGroup
interleave_groups_move RightEnd = gives 0 T Right

-- what the worker does, as a table
abbrev pub interleave_groups_table : FlagTable InterleaveGroupsStage
interleave_groups_table = record { move = interleave_groups_move; start = Start; row = InterleaveGroupsRow; inputs = 4; outputs = 1; debt = λ s. one_write (interleave_groups_move s) }

-- the same as a machine
abbrev pub interleave_groups_machine : Machine (Unit {0}) InterleaveGroupsStage
interleave_groups_machine = over_flags interleave_groups_table

-- the transducer that a node makes of it
abbrev pub interleave_groups_node : FlagNode InterleaveGroupsStage
interleave_groups_node = flag_node interleave_groups_table
