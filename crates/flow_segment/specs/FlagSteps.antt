-- How a table goes over blocks of flags, as they stand in memory.
use Rattle.std.specs.Prelude.{ℕ, Bool, false, List, Result, get_or, take}
use Rattle.snesl_data.specs.declared.fault.FaultKind.{FaultKind}
use Rattle.flow_messages.specs.Cells.{flag}
use Rattle.flow_messages.specs.Signals.{carry}
use Rattle.flow_base.specs.Machines.{Leads, on_flag}
use Rattle.flow_segment.specs.FlagBlocks.{RunsOver}
use Rattle.flow_segment.specs.FlagTables.{FlagTable}
use Rattle.flow_segment.specs.declared.over_flags.Ran.{Ran}

-- the flag at this place leads there, where one is F and the other T
abbrev pub FlagLeads : {S : Type 0} → Result S FaultKind → Result S FaultKind → List Bool → ℕ → S → Type 0
FlagLeads at_f at_t flags place next = Leads (on_flag at_f at_t) (carry (flag (get_or flags place false))) next

-- the table went so far over the first of these flags, and wrote the first of those
abbrev pub RanOver : {S : Type 0} → FlagTable S → S → List Bool → List Bool → List Bool → Ran S → Type 0
RanOver t stage firsts seconds written ran =
    RunsOver t stage (take ran.first firsts) (take ran.second seconds) (take ran.written written) ran.stage
