use Rattle.std.specs.Prelude.{◌≡◌, ◌+◌, ◌≤◌, false, ◌++◌, map, length}
use Rattle.std.specs.List.{All, AllZip}
use Rattle.std.specs.Vec.{vec_capacity}
use Rattle.flow_edges.specs.lanes.Rings.{Kept}
use Rattle.flow_boxes.specs.Contents.{view_of}
use Rattle.flow_drives.proofs.loops.round_parts.put_together.Given as goal

abbrev pub invariant-loop-part : goal.invariant-loop-part
invariant-loop-part g l =
    let left = l.part-iterator.rest.items in
    let boxes = l.boxes.rest.items in
    let made = l.shares.items in
    let parts = l.fn.parts.items in
    record {
      kept : AllZip (λ part ends. Kept (view_of part.share.value.ends) (view_of ends)) left boxes;
      numbers : map (λ share. share.number) made ++ map (λ part. part.share.value.number) left ≡ map (λ part. part.share.value.number) parts;
      nodes : map (λ share. share.nodes.items) made ++ map (λ part. part.share.value.nodes.items) left ≡ map (λ part. part.share.value.nodes.items) parts;
      boxes : map (λ share. share.ends) made ++ boxes ≡ l.fn.boxes.items;
      fed : All (λ share. share.starved ≡ false) made;
      room : length made + length left ≤ vec_capacity l.shares;
    }
