use Rattle.std.proofs.Common.{◌≡◌, ◌++◌, map, take}
use Rattle.snesl_data.specs.Builders.{built_in}
use Rattle.snesl_data.specs.Values.{a_bool}
use Rattle.flow_values.proofs.tab.push_truths.Given as goal

-- the truth values so far were added
abbrev pub invariant-loop-place : goal.invariant-loop-place
invariant-loop-place l = built_in l.elements ≡ built_in l.fn.elements ++ map a_bool (take l.place l.truths)
