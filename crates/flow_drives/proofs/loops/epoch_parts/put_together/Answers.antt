use Rattle.std.proofs.Common.{map, ap, arith}
use Rattle.std.proofs.lemmas.Grind.{common_steps}
use Rattle.flow_edges.specs.lanes.Rings.{Kept, SameRings, ends_of}
use Rattle.flow_shares.specs.Lending.{share_nodes}
use Rattle.flow_networks.proofs.Refused.{nothing_made}
use Rattle.flow_drives.proofs.OfLoops.GoingOver.{goes_over_as, first_and_rest}
use Rattle.flow_drives.proofs.loops.epoch_parts.put_together.Goals as goal

pub returns-in_err-shares : goal.returns-in_err-shares
returns-in_err-shares g c =
    let h = c.from_residual.ensures.1 in
    record { bodies = nothing_made c.from_residual.result _ _ h; ends = nothing_made c.from_residual.result _ _ h }

pub loop-lender-preserved : goal.loop-lender-preserved
loop-lender-preserved g c =
    let lender = c.in-Some.lender in
    let own = c.in-Some-next.own in
    let was = c.loop-lender.invariant in
    let left = c.loop-lender.lender-iterator.rest.items in
    let rest = c.next.new.self.rest.items in
    let ends = c.loop-lender.ends.rest.items in
    let others = c.next-in-loop-lender.new.self.rest.items in
    let made = c.loop-lender.shares.items in
    let now = c.push_reserved.new.self.items in
    let share = c.take_back.result in
    let is = c.in-Some.ensures.steps.0 in
    let are = c.in-Some-next.ensures.items in
    let kept = first_and_rest (λ lender own. Kept (ends_of lender.share.value.ends) (ends_of own)) left rest ends others lender own is are was.kept in
    let same = first_and_rest (λ lender own. SameRings lender.share.value.ends own) left rest ends others lender own is are was.same in
    record {
      same = same.1;
      kept = kept.1;
      bodies = goes_over_as (λ share. share_nodes share) made now share (map (λ lender. share_nodes lender.share.value) left)
          (map (λ lender. share_nodes lender.share.value) rest) (share_nodes lender.share.value)
          (map (λ lender. share_nodes lender.share.value) c.args.lenders.items) c.push_reserved.ensures.items c.take_back.ensures.body
          (ap (map (λ lender. share_nodes lender.share.value)) is) was.bodies;
      ends = goes_over_as (λ share. share.ends) made now share ends others own c.args.ends.items c.push_reserved.ensures.items c.take_back.ensures.ends are was.ends;
      room = grind (arith, common_steps);
    }
