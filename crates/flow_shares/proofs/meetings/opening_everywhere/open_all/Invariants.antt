use Rattle.std.proofs.Common.{◌≡◌, ◌<◌, ℕ, length, take}
use Rattle.std.specs.List.{All}
use Rattle.flow_networks.specs.EdgeKinds.{kind_at}
use Rattle.flow_shares.specs.meetings.Open.{AreFreshEnds}
use Rattle.flow_shares.proofs.meetings.opening_everywhere.open_all.Given as goal

abbrev pub invariant-loop-edge : goal.invariant-loop-edge
invariant-loop-edge g l = record {
  count : length l.ends.items ≡ l.threads;
  place : All (λ a. (e : ℕ) → e < length l.kinds → g.E.Opening.has_place a e (kind_at l.kinds e) l.capacity) l.ends.items;
  opened : AreFreshEnds g.E.Ends.view g.E.Meeting.joins g.E.Meeting.slots (take l.edge l.owners) l.kinds l.capacity l.ends.items;
}
