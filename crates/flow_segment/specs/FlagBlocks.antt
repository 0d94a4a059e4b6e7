-- What a table over flags makes of flags side by side.
use Rattle.std.specs.Prelude.{◌+◌, eqb, cond, Bool, List, [], length}
use Rattle.flow_messages.specs.Blocks.{flag_signals}
use Rattle.flow_base.specs.Along.{RunsAlong}
use Rattle.flow_segment.specs.FlagTables.{FlagTable, over_flags}

-- the table goes from one stage to the other, and reads and writes just these flags: a step for each
abbrev pub RunsOver : {S : Type 0} → FlagTable S → S → List Bool → List Bool → List Bool → S → Type 0
RunsOver t s xs ys zs u = RunsAlong (over_flags t) (tt, s) (tt, u) (flag_signals xs) (flag_signals ys) (λ q. cond (eqb q 0) (flag_signals zs) []) (length xs + length ys + length zs)
