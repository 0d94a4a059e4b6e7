-- Segments, parted at truth values: the machine.
use Rattle.std.specs.Prelude.{ℕ, Ok, Err}
use Rattle.snesl_data.specs.declared.fault.FaultKind.TheVariants.{Part as PartFault}
use Rattle.flow_base.specs.Flags.{F, T}
use Rattle.flow_base.specs.Machines.{Move, begins, takes, gives, on_flag, Machine, one_write}
use Rattle.flow_segment.specs.FlagTables.{FlagTable, over_flags, FlagNode, flag_node}
use Rattle.flow_segment.specs.Rows.{PartFlagsRow}
use Rattle.flow_segment.specs.declared.part_flags.PartFlagsStage.{PartFlagsStage}
use Rattle.flow_segment.specs.declared.part_flags.PartFlagsStage.TheVariants.{Start, Parted, Open, Test, Element, PartElement, Part, PartEnd, Last, End}

-- Flags of the segments come at port 0, truth values at port 1, and the elements of the false ones at port 2; the
-- number of the parts goes to port 0, and the parts to port 1. F of a segment leads to its truth value, false to its
-- element and true to its part; T of a segment, unless its last truth value was false, to the end of its elements.
abbrev pub part_flags_move : PartFlagsStage → Move PartFlagsStage
part_flags_move Start = begins (on_flag (Ok Test) (Ok Last))
part_flags_move Parted = takes 0 (on_flag (Ok Test) (Ok Last))
part_flags_move Open = takes 0 (on_flag (Ok Test) (Err PartFault))
part_flags_move Test = takes 1 (on_flag (Ok Element) (Ok Part))
part_flags_move Element = takes 2 (on_flag (Ok PartElement) (Err PartFault))
part_flags_move PartElement = gives 1 F Open
part_flags_move Part = gives 0 F PartEnd
part_flags_move PartEnd = gives 1 T Parted
part_flags_move Last = takes 2 (on_flag (Err PartFault) (Ok End))
part_flags_move End = gives 0 T Start

-- how many writes are due: a part is counted, and then ended
abbrev pub part_flags_debt : PartFlagsStage → ℕ
part_flags_debt Part = 2
part_flags_debt s = one_write (part_flags_move s)

-- what the worker does, as a table
abbrev pub part_flags_table : FlagTable PartFlagsStage
part_flags_table = record { move = part_flags_move; start = Start; row = PartFlagsRow; inputs = 3; outputs = 2; debt = part_flags_debt }

-- the same as a machine
abbrev pub part_flags_machine : Machine (Unit {0}) PartFlagsStage
part_flags_machine = over_flags part_flags_table

-- the transducer that a node makes of it
abbrev pub part_flags_node : FlagNode PartFlagsStage
part_flags_node = flag_node part_flags_table
