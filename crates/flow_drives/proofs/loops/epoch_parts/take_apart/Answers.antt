use Rattle.std.proofs.Common.{◌∷◌, sym, ap, ◌∙◌, arith}
use Rattle.std.proofs.lemmas.Grind.{common_steps}
use Rattle.flow_shares.specs.meetings.Deals.{ends_in}
use Rattle.flow_networks.proofs.Refused.{nothing_made}
use Rattle.flow_drives.proofs.OfLoops.GoingOver.{goes_over, goes_over_as}
use Rattle.flow_drives.proofs.loops.epoch_parts.take_apart.Goals as goal

pub returns-in_err-lenders : goal.returns-in_err-lenders
returns-in_err-lenders g c =
    let h = c.from_residual.ensures.1 in
    record { lenders = nothing_made c.from_residual.result _ _ h; ends = nothing_made c.from_residual.result _ _ h }

pub returns-in_err-ends : goal.returns-in_err-ends
returns-in_err-ends g c =
    let r = c.from_residual-in_err-ends.result in
    let h = c.from_residual-in_err-ends.ensures.1 in
    record { lenders = nothing_made r _ _ h; ends = nothing_made r _ _ h }

pub loop-share-preserved : goal.loop-share-preserved
loop-share-preserved g c =
    let was = c.loop-share.invariant in
    let left = c.loop-share.share-iterator.rest.items in
    let rest = c.next.new.self.rest.items in
    let all = c.args.shares.items in
    let is = c.in-Some.ensures.steps.0 in
    let lent = c.lend-lender.ensures in
    let own = c.lend-lender.result.1 in
    record {
      lenders = goes_over_as (λ lender. lender.share.value) c.loop-share.lenders.items c.push_reserved.new.self.items c.lend-lender.result.0 left rest
          c.in-Some.share all c.push_reserved.ensures.items lent.share is was.lenders;
      ends = goes_over c.loop-share.ends.items c.push_reserved-in-loop-share.new.self.items (ends_in left) (ends_in rest) own (ends_in all) c.push_reserved-in-loop-share.ensures.items
          (ap ends_in is ∙ ap (λ e. e ∷ ends_in rest) (sym lent.ends)) was.ends;
      lenders_room = grind (arith, common_steps);
      ends_room = grind (arith, common_steps);
    }
