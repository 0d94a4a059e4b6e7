use Rattle.std.proofs.Common.{◌≡◌, not, ◌≤◌, take}
use Rattle.std.specs.List.{count_by}
use Rattle.flow_scalar.proofs.units_of.elements_in.Given as goal

-- the elements so far
abbrev pub invariant-loop-ends : goal.invariant-loop-ends
invariant-loop-ends l = record {
  counted : l.elements ≡ count_by not (take l.ends-index l.flags);
  within : l.elements ≤ l.ends-index;
}
