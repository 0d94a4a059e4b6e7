-- Segments of segments, joined: the machine.
use Rattle.std.specs.Prelude.{Ok}
use Rattle.flow_base.specs.Flags.{F, T}
use Rattle.flow_base.specs.Machines.{on_flag, Move, begins, takes, gives, Machine, one_write}
use Rattle.flow_segment.specs.FlagTables.{FlagTable, over_flags, FlagNode, flag_node}
use Rattle.flow_segment.specs.Rows.{ConcatFlagsRow}
use Rattle.flow_segment.specs.declared.concat_flags.ConcatFlagsStage.{ConcatFlagsStage}
use Rattle.flow_segment.specs.declared.concat_flags.ConcatFlagsStage.TheVariants.{Start, Outer, Inner, Element, End}

-- outer flags come at port 0, and inner ones at port 1: F of the outer segment leads to an inner one, whose F is
-- written and whose T leads back; T ends the outer segment
abbrev pub concat_flags_move : ConcatFlagsStage → Move ConcatFlagsStage
concat_flags_move Start = begins (on_flag (Ok Inner) (Ok End))
concat_flags_move Outer = takes 0 (on_flag (Ok Inner) (Ok End))
concat_flags_move Inner = takes 1 (on_flag (Ok Element) (Ok Outer))
concat_flags_move Element = gives 0 F Inner
concat_flags_move End = gives 0 T Start

-- what the worker does, as a table
abbrev pub concat_flags_table : FlagTable ConcatFlagsStage
concat_flags_table = record { move = concat_flags_move; start = Start; row = ConcatFlagsRow; inputs = 2; outputs = 1; debt = λ s. one_write (concat_flags_move s) }

-- the same as a machine
abbrev pub concat_flags_machine : Machine (Unit {0}) ConcatFlagsStage
concat_flags_machine = over_flags concat_flags_table

-- the transducer that a node makes of it
abbrev pub concat_flags_node : FlagNode ConcatFlagsStage
concat_flags_node = flag_node concat_flags_table
