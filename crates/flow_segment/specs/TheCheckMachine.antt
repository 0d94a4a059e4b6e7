-- Segments of one element: the machine.
use Rattle.std.specs.Prelude.{Ok, Err}
use Rattle.snesl_data.specs.declared.fault.FaultKind.TheVariants.{The}
use Rattle.flow_base.specs.Machines.{on_flag, Move, begins, takes, Machine}
use Rattle.flow_segment.specs.FlagTables.{FlagTable, over_flags, FlagNode, flag_node}
use Rattle.flow_segment.specs.Rows.{TheCheckRow}
use Rattle.flow_segment.specs.declared.the_check.TheCheckStage.{TheCheckStage}
use Rattle.flow_segment.specs.declared.the_check.TheCheckStage.TheVariants.{Start, Element}

-- F begins an instance, and T is due
abbrev pub the_check_move : TheCheckStage → Move TheCheckStage
the_check_move Start = begins (on_flag (Ok Element) (Err The))
the_check_move Element = takes 0 (on_flag (Err The) (Ok Start))

-- what the worker does, as a table
abbrev pub the_check_table : FlagTable TheCheckStage
the_check_table = record { move = the_check_move; start = Start; row = TheCheckRow; inputs = 1; outputs = 0; debt = λ _. 0 }

-- the same as a machine
abbrev pub the_check_machine : Machine (Unit {0}) TheCheckStage
the_check_machine = over_flags the_check_table

-- the transducer that a node makes of it
abbrev pub the_check_node : FlagNode TheCheckStage
the_check_node = flag_node the_check_table
