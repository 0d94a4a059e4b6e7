use Rattle.std.proofs.Common.{◌≡◌, [], replicate}
use Rattle.flow_shares.specs.Deals.{lists_in}
use Rattle.flow_shares.proofs.deal.empty_lists.Given as goal

abbrev pub invariant-loop : goal.invariant-loop
invariant-loop g l = lists_in l.lists.items ≡ replicate l.counter []
