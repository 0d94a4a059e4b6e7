use Rattle.std.proofs.Common.{◌≡◌, ◌+◌, ◌-◌, ◌≤◌, MatchOption}
use Rattle.flow_messages.specs.Limits.{greatest_capacity}
use Rattle.snesl_flatten.specs.network.Driven.{HaveEnded}
use Rattle.snesl_flatten.specs.network.NodesAtRest.{final_view}
use Rattle.snesl_size.specs.Sizes.{EndsAtNoneBelow, IsFullBelow, IsLeft}
use Rattle.snesl_size.proofs.search.least_capacity.Given as goal

-- the program ends at no capacity below `least`, and at `enough`, where that is one
abbrev pub invariant-loop-least : goal.invariant-loop-least
invariant-loop-least g l = record {
  some : 1 ≤ l.least;
  order : l.least ≤ l.enough;
  limit : l.enough ≤ greatest_capacity + 1;
  none : EndsAtNoneBelow l.fn.program l.fn.input l.least;
  known : MatchOption l.ended (l.enough ≡ greatest_capacity + 1)
      (λ rested. IsLeft l.fn.program l.fn.input l.enough (final_view rested) × HaveEnded (final_view rested));
  full : IsFullBelow l.fn.program l.fn.input l.least l.full;
}

abbrev pub decreases-loop-least : goal.decreases-loop-least
decreases-loop-least g l = l.enough - l.least
