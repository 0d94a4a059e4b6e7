use Rattle.std.specs.Prelude.{◌≡◌, ◌+◌, ◌≤◌, ◌++◌, map, length}
use Rattle.std.specs.Vec.{vec_capacity}
use Rattle.flow_shares.specs.Deals.{lists_in}
use Rattle.flow_shares.proofs.meetings.gathering.split.Given as goal

abbrev pub invariant-loop-share : goal.invariant-loop-share
invariant-loop-share g l =
    let left = l.share-iterator.rest.items in
    record {
      nodes : lists_in l.lists.items ++ map (λ share. share.nodes.items) left ≡ map (λ share. share.nodes.items) l.fn.shares.items;
      ends : l.ends.items ++ map (λ share. share.ends) left ≡ map (λ share. share.ends) l.fn.shares.items;
      lists_room : length l.lists.items + length left ≤ vec_capacity l.lists;
      ends_room : length l.ends.items + length left ≤ vec_capacity l.ends;
    }
