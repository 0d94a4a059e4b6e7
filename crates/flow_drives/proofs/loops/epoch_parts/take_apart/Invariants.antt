use Rattle.std.specs.Prelude.{◌≡◌, ◌+◌, ◌≤◌, ◌++◌, map, length}
use Rattle.std.specs.Vec.{vec_capacity}
use Rattle.flow_shares.specs.meetings.Deals.{ends_in}
use Rattle.flow_drives.proofs.loops.epoch_parts.take_apart.Given as goal

abbrev pub invariant-loop-share : goal.invariant-loop-share
invariant-loop-share g l =
    let left = l.share-iterator.rest.items in
    record {
      lenders : map (λ lender. lender.share.value) l.lenders.items ++ left ≡ l.fn.shares.items;
      ends : l.ends.items ++ ends_in left ≡ ends_in l.fn.shares.items;
      lenders_room : length l.lenders.items + length left ≤ vec_capacity l.lenders;
      ends_room : length l.ends.items + length left ≤ vec_capacity l.ends;
    }
