use Rattle.std.proofs.Common.{◌≡◌, length, map, refl, sym, ◌∙◌, ap, subst, arith}
use Rattle.std.specs.List.{AllZip}
use Rattle.flow_edges.specs.lanes.Rings.{Kept, SameRings, ends_of}
use Rattle.flow_shares.specs.Lending.{share_nodes}
use Rattle.flow_shares.proofs.OfMeetings.Lists.{mapped_twice, written_back}
use Rattle.flow_drives.proofs.OfLoops.ShareLists.{two_of_ok}
use Rattle.flow_drives.proofs.OfLoops.Elements.{zip_parts}
use Rattle.flow_drives.proofs.OfLoops.EpochMeets.{are_met}
use Rattle.flow_drives.proofs.loops.epoch_meeting.meet.Goals as goal

pub put_together-requires : goal.put_together-requires
put_together-requires g c =
    let ends = c.deref_mut.result.now in
    let now = c.meet_all.new.ends in
    let lenders = c.in_ok-lenders.lenders.items in
    let is : ends ≡ c.in_ok-lenders.ends.items = cc in
    let even : length now ≡ length ends = omega (arith, c.meet_all.auto.ends) in
    let taken = is ∙ c.in_ok-lenders.ensures.ends ∙ ap (map (λ share. share.ends)) (sym c.in_ok-lenders.ensures.lenders) ∙ mapped_twice (λ share. share.ends) (λ lender. lender.share.value) lenders in
    let back = written_back now c.in_ok-lenders.ends.items c.in_ok-lenders.ends.len (even ∙ ap length is) (omega (arith, c.in_ok-lenders.ends.ok.0)) in
    record {
      same = subst (λ l. AllZip (λ lender own. SameRings lender.share.value.ends own) lenders l) (sym back)
          (zip_parts SameRings (λ lender. lender.share.value.ends) lenders ends now taken even c.meet_all.ensures.same);
      kept = subst (λ l. AllZip (λ lender own. Kept (ends_of lender.share.value.ends) (ends_of own)) lenders l) (sym back)
          (zip_parts (λ a b. Kept (ends_of a) (ends_of b)) (λ lender. lender.share.value.ends) lenders ends now taken even c.meet_all.ensures.kept);
    }

pub returns : goal.returns
returns g c =
    let shares = c.args.shares.items in
    let ends = c.deref_mut.result.now in
    let now = c.meet_all.new.ends in
    let lenders = c.in_ok-lenders.lenders.items in
    let given = c.in_ok-lenders.ensures.lenders in
    let is : ends ≡ c.in_ok-lenders.ends.items = cc in
    let even : length now ≡ length ends = omega (arith, c.meet_all.auto.ends) in
    let back = written_back now c.in_ok-lenders.ends.items c.in_ok-lenders.ends.len (even ∙ ap length is) (omega (arith, c.in_ok-lenders.ends.ok.0)) in
    let all = c.meet_all.ensures in
    let made = c.put_together.ensures in
    two_of_ok c.put_together.result made.bodies made.ends
    (λ met bodies put.
    are_met g.network shares c.requires.1.1 c.args.owners.now c.requires.1.0 ends (is ∙ c.in_ok-lenders.ensures.ends) now even all.kept all.same all.places all.met refl met.items
    (bodies ∙ sym (mapped_twice (λ share. share_nodes share) (λ lender. lender.share.value) lenders) ∙ ap (map (λ share. share_nodes share)) given)
    (put ∙ back))
