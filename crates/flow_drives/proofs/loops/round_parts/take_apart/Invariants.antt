use Rattle.std.specs.Prelude.{◌≡◌, ◌+◌, ◌≤◌, false, ◌++◌, map, length}
use Rattle.std.specs.List.{All}
use Rattle.std.specs.Vec.{vec_capacity}
use Rattle.flow_drives.proofs.loops.round_parts.take_apart.Given as goal

abbrev pub invariant-loop-share : goal.invariant-loop-share
invariant-loop-share g l =
    let left = l.share-iterator.rest.items in
    record {
      parts : map (λ part. part.share.value) l.parts.items ++ left ≡ l.fn.shares.items;
      boxes : l.boxes.items ++ map (λ share. share.ends) left ≡ map (λ share. share.ends) l.fn.shares.items;
      fed : All (λ share. share.starved ≡ false) left;
      parts_room : length l.parts.items + length left ≤ vec_capacity l.parts;
      boxes_room : length l.boxes.items + length left ≤ vec_capacity l.boxes;
    }
