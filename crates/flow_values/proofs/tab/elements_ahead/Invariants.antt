use Rattle.std.proofs.Common.{◌≡◌, false, replicate, take}
use Rattle.flow_values.proofs.tab.elements_ahead.Given as goal

-- all flags so far stand for elements
abbrev pub invariant-loop-place : goal.invariant-loop-place
invariant-loop-place l = take l.place l.flags ≡ replicate l.place false
