-- Truth values as segments: the machine.
use Rattle.std.specs.Prelude.{ℕ, Ok}
use Rattle.flow_base.specs.Flags.{F, T}
use Rattle.flow_base.specs.Machines.{on_flag, Move, begins, gives, Machine}
use Rattle.flow_segment.specs.FlagTables.{FlagTable, over_flags, FlagNode, flag_node}
use Rattle.flow_segment.specs.Rows.{FlagOfBoolRow}
use Rattle.flow_segment.specs.declared.flag_of_bool.FlagOfBoolStage.{FlagOfBoolStage}
use Rattle.flow_segment.specs.declared.flag_of_bool.FlagOfBoolStage.TheVariants.{Start, Element, End}

-- a truth value begins an instance; then F and T, or T alone, are due
abbrev pub flag_of_bool_move : FlagOfBoolStage → Move FlagOfBoolStage
flag_of_bool_move Start = begins (on_flag (Ok End) (Ok Element))
flag_of_bool_move Element = gives 0 F End
flag_of_bool_move End = gives 0 T Start

-- how many writes are due
abbrev pub flag_of_bool_debt : FlagOfBoolStage → ℕ
flag_of_bool_debt Start = 0
flag_of_bool_debt Element = 2
flag_of_bool_debt End = 1

-- what the worker does, as a table
abbrev pub flag_of_bool_table : FlagTable FlagOfBoolStage
flag_of_bool_table = record { move = flag_of_bool_move; start = Start; row = FlagOfBoolRow; inputs = 1; outputs = 1; debt = flag_of_bool_debt }

-- the same as a machine
abbrev pub flag_of_bool_machine : Machine (Unit {0}) FlagOfBoolStage
flag_of_bool_machine = over_flags flag_of_bool_table

-- the transducer that a node makes of it
abbrev pub flag_of_bool_node : FlagNode FlagOfBoolStage
flag_of_bool_node = flag_node flag_of_bool_table
