use Rattle.std.specs.Prelude.{◌≡◌, ◌+◌, ◌≤◌, ◌++◌, map, length}
use Rattle.std.specs.List.{AllZip}
use Rattle.std.specs.Vec.{vec_capacity}
use Rattle.flow_edges.specs.lanes.Rings.{Kept, SameRings, ends_of}
use Rattle.flow_shares.specs.Lending.{share_nodes}
use Rattle.flow_shares.specs.meetings.Deals.{ends_in}
use Rattle.flow_drives.proofs.loops.epoch_parts.put_together.Given as goal

abbrev pub invariant-loop-lender : goal.invariant-loop-lender
invariant-loop-lender g l =
    let left = l.lender-iterator.rest.items in
    let own = l.ends.rest.items in
    let made = l.shares.items in
    record {
      same : AllZip (λ lender ends. SameRings lender.share.value.ends ends) left own;
      kept : AllZip (λ lender ends. Kept (ends_of lender.share.value.ends) (ends_of ends)) left own;
      bodies : map (λ share. share_nodes share) made ++ map (λ lender. share_nodes lender.share.value) left ≡ map (λ lender. share_nodes lender.share.value) l.fn.lenders.items;
      ends : ends_in made ++ own ≡ l.fn.ends.items;
      room : length made + length left ≤ vec_capacity l.shares;
    }
