use Rattle.std.specs.Prelude.{◌≡◌, ◌++◌, take}
use Rattle.std.specs.Vec.{vec_capacity}
use Rattle.flow_edges.proofs.lanes.gathering.append.Given as goal

-- what was appended so far
abbrev pub invariant-loop-at : goal.invariant-loop-at
invariant-loop-at g l = record {
  items : l.items.items ≡ l.fn.items.items ++ take l.at l.more;
  capacity : vec_capacity l.items ≡ vec_capacity l.fn.items;
}
