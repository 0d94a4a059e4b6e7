use Rattle.std.proofs.Common.{◌≡◌, ◌++◌, map, take}
use Rattle.snesl_data.specs.Builders.{built_in}
use Rattle.snesl_data.specs.Values.{an_int}
use Rattle.flow_values.proofs.tab.push_ints.Given as goal

-- the integers so far were added
abbrev pub invariant-loop-place : goal.invariant-loop-place
invariant-loop-place l = built_in l.elements ≡ built_in l.fn.elements ++ map an_int (take l.place l.ints)
