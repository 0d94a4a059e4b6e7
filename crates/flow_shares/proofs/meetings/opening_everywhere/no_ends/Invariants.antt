use Rattle.std.proofs.Common.{◌≡◌, ◌<◌, ℕ, false, length}
use Rattle.std.specs.List.{All}
use Rattle.flow_networks.specs.EdgeKinds.{kind_at}
use Rattle.flow_shares.proofs.meetings.opening_everywhere.no_ends.Given as goal

abbrev pub invariant-loop : goal.invariant-loop
invariant-loop g l = record {
  count : length l.ends.items ≡ l.counter;
  place : All (λ a. (e : ℕ) → e < length l.kinds → g.E.Opening.has_place a e (kind_at l.kinds e) l.capacity) l.ends.items;
  none : All (λ a. (e : ℕ) → ((g.E.Ends.view a).writes e ≡ false) × ((g.E.Ends.view a).reads e ≡ false)) l.ends.items;
}
