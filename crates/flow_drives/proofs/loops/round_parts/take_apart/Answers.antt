use Rattle.std.proofs.Common.{◌≡◌, false, sym, ◌∙◌, ap, arith}
use Rattle.std.proofs.lemmas.Grind.{common_steps}
use Rattle.flow_drives.proofs.OfLoops.Elements.{first_of_all, rest_of_all}
use Rattle.flow_drives.proofs.OfLoops.GoingOver.{goes_over_as}
use Rattle.flow_drives.proofs.loops.round_parts.take_apart.Goals as goal

pub invariant_of-push_reserved : goal.invariant_of-push_reserved
invariant_of-push_reserved g c =
    let given = c.of-given.ensures in
    record {
      same_number = c.number-number.ensures ∙ ap (λ s. s.number) (sym given);
      same_nodes = c.into_parts-nodes.ensures.nodes ∙ ap (λ s. s.nodes) (sym given);
      fed = ap (λ s. s.starved) given
          ∙ first_of_all (λ s. s.starved ≡ false) c.loop-share.share-iterator.rest.items c.next.new.self.rest.items c.in-Some.share
          c.in-Some.ensures.steps.0 c.loop-share.invariant.fed;
    }

pub loop-share-preserved : goal.loop-share-preserved
loop-share-preserved g c =
    let was = c.loop-share.invariant in
    let left = c.loop-share.share-iterator.rest.items in
    let rest = c.next.new.self.rest.items in
    let share = c.in-Some.share in
    let is = c.in-Some.ensures.steps.0 in
    record {
      parts = goes_over_as (λ part. part.share.value) c.loop-share.parts.items c.push_reserved.new.self.items _ left rest share c.args.shares.items
          c.push_reserved.ensures.items c.of-given.ensures is was.parts;
      boxes = grind (arith, common_steps);
      fed = rest_of_all (λ s. s.starved ≡ false) left rest share is was.fed;
      parts_room = grind (arith, common_steps);
      boxes_room = grind (arith, common_steps);
    }
