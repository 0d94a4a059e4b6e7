use Rattle.std.proofs.Common.{◌≡◌, false, map, sym, ◌∙◌, ap, subst, arith}
use Rattle.std.proofs.lemmas.Grind.{common_steps}
use Rattle.std.specs.List.{All}
use Rattle.flow_edges.specs.lanes.Rings.{Kept}
use Rattle.flow_boxes.specs.Contents.{view_of}
use Rattle.flow_shares.specs.Shares.{HasItsEnds, IsOwn}
use Rattle.flow_drives.proofs.OfLoops.Elements.{all_more}
use Rattle.flow_drives.proofs.OfLoops.GoingOver.{goes_over_as, first_and_rest}
use Rattle.flow_drives.proofs.OfLoops.Kept.{ends_stay, own_stay}
use Rattle.flow_drives.proofs.loops.round_parts.put_together.Goals as goal

pub new-requires-clause-there : goal.new-requires-clause-there
new-requires-clause-there g c =
    let part = c.in-Some.part in
    let old = view_of part.share.value.ends in
    let new = view_of c.in-Some-next.ends in
    let kept = first_and_rest (λ part ends. Kept (view_of part.share.value.ends) (view_of ends)) c.loop-part.part-iterator.rest.items
    c.next.new.self.rest.items c.loop-part.boxes.rest.items c.next-in-loop-part.new.self.rest.items part c.in-Some-next.ends
    c.in-Some.ensures.steps.0 c.in-Some-next.ensures.items c.loop-part.invariant.kept in
    subst (λ n. All (HasItsEnds new) n) (ap (λ v. v.items) (sym part.same_nodes)) (ends_stay part.share.value.nodes.items old new kept.0.ends part.share.value.there)

pub new-requires-clause-own : goal.new-requires-clause-own
new-requires-clause-own g c =
    let part = c.in-Some.part in
    let old = view_of part.share.value.ends in
    let new = view_of c.in-Some-next.ends in
    let kept = first_and_rest (λ part ends. Kept (view_of part.share.value.ends) (view_of ends)) c.loop-part.part-iterator.rest.items
    c.next.new.self.rest.items c.loop-part.boxes.rest.items c.next-in-loop-part.new.self.rest.items part c.in-Some-next.ends
    c.in-Some.ensures.steps.0 c.in-Some-next.ensures.items c.loop-part.invariant.kept in
    subst (λ n. All (IsOwn new) n) (ap (λ v. v.items) (sym part.same_nodes)) (own_stay part.share.value.nodes.items old new kept.0.traffic (part.share.value.own part.fed))

pub loop-part-preserved : goal.loop-part-preserved
loop-part-preserved g c =
    let part = c.in-Some.part in
    let was = c.loop-part.invariant in
    let left = c.loop-part.part-iterator.rest.items in
    let rest = c.next.new.self.rest.items in
    let is = c.in-Some.ensures.steps.0 in
    let made = c.loop-part.shares.items in
    let now = c.push_reserved.new.self.items in
    let parts = c.args.parts.items in
    let kept = first_and_rest (λ part ends. Kept (view_of part.share.value.ends) (view_of ends)) left rest c.loop-part.boxes.rest.items
    c.next-in-loop-part.new.self.rest.items part c.in-Some-next.ends is c.in-Some-next.ensures.items was.kept in
    record {
      kept = kept.1;
      numbers = goes_over_as (λ share. share.number) made now c.new.result (map (λ part. part.share.value.number) left)
          (map (λ part. part.share.value.number) rest) part.share.value.number (map (λ part. part.share.value.number) parts)
          c.push_reserved.ensures.items (c.new.ensures.number ∙ part.same_number) (ap (map (λ part. part.share.value.number)) is) was.numbers;
      nodes = goes_over_as (λ share. share.nodes.items) made now c.new.result (map (λ part. part.share.value.nodes.items) left)
          (map (λ part. part.share.value.nodes.items) rest) part.share.value.nodes.items (map (λ part. part.share.value.nodes.items) parts)
          c.push_reserved.ensures.items (ap (λ v. v.items) (c.new.ensures.nodes ∙ part.same_nodes)) (ap (map (λ part. part.share.value.nodes.items)) is) was.nodes;
      boxes = goes_over_as (λ share. share.ends) made now c.new.result c.loop-part.boxes.rest.items c.next-in-loop-part.new.self.rest.items
          c.in-Some-next.ends c.args.boxes.items c.push_reserved.ensures.items c.new.ensures.ends c.in-Some-next.ensures.items was.boxes;
      fed = all_more (λ share. share.starved ≡ false) made now c.new.result c.push_reserved.ensures.items was.fed c.new.ensures.starved;
      room = grind (arith, common_steps);
    }
