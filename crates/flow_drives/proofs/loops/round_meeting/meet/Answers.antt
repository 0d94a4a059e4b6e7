use Rattle.std.proofs.Common.{◌≡◌, length, map, sym, ◌∙◌, ap, subst, arith}
use Rattle.std.specs.List.{AllZip}
use Rattle.flow_edges.specs.lanes.Rings.{Kept}
use Rattle.flow_boxes.specs.Contents.{view_of}
use Rattle.flow_shares.proofs.OfMeetings.Lists.{mapped_twice, written_back}
use Rattle.flow_drives.proofs.OfLoops.Elements.{zip_parts, four_of_ok}
use Rattle.flow_drives.proofs.OfLoops.Levels.{all_join}
use Rattle.flow_drives.proofs.OfLoops.RoundMeets.{their_links, are_met}
use Rattle.flow_drives.proofs.loops.round_meeting.meet.Goals as goal

pub meet_all-requires-clause-joined : goal.meet_all-requires-clause-joined
meet_all-requires-clause-joined g c =
    let s = g.network in
    let boxes = c.deref_mut.result.now in
    let is : boxes ≡ c.in_ok-parts.boxes.items = cc in
    let owners = c.requires.1.0 in
    all_join s.share s.edges c.args.owners.now owners boxes s.capacity (their_links s c.args.owners.now owners c.args.shares.items c.requires.1.1.0 boxes (is ∙ c.in_ok-parts.ensures.boxes))

pub put_together-requires : goal.put_together-requires
put_together-requires g c =
    let boxes = c.deref_mut.result.now in
    let now = c.meet_all.new.ends in
    let parts = c.in_ok-parts.parts.items in
    let is : boxes ≡ c.in_ok-parts.boxes.items = cc in
    let even : length now ≡ length boxes = omega (arith, c.meet_all.auto.ends) in
    let taken = is ∙ c.in_ok-parts.ensures.boxes ∙ ap (map (λ share. share.ends)) (sym c.in_ok-parts.ensures.parts) ∙ mapped_twice (λ share. share.ends) (λ part. part.share.value) parts in
    let back = written_back now c.in_ok-parts.boxes.items c.in_ok-parts.boxes.len (even ∙ ap length is) (omega (arith, c.in_ok-parts.boxes.ok.0)) in
    record {
      kept = subst (λ l. AllZip (λ part ends. Kept (view_of part.share.value.ends) (view_of ends)) parts l) (sym back)
          (zip_parts (λ a b. Kept (view_of a) (view_of b)) (λ part. part.share.value.ends) parts boxes now taken even c.meet_all.ensures.kept);
    }

pub returns : goal.returns
returns g c =
    let s = g.network in
    let shares = c.args.shares.items in
    let boxes = c.deref_mut.result.now in
    let now = c.meet_all.new.ends in
    let parts = c.in_ok-parts.parts.items in
    let given = c.in_ok-parts.ensures.parts in
    let is : boxes ≡ c.in_ok-parts.boxes.items = cc in
    let even : length now ≡ length boxes = omega (arith, c.meet_all.auto.ends) in
    let back = written_back now c.in_ok-parts.boxes.items c.in_ok-parts.boxes.len (even ∙ ap length is) (omega (arith, c.in_ok-parts.boxes.ok.0)) in
    let all = c.meet_all.ensures in
    let made = c.put_together.ensures in
    four_of_ok c.put_together.result made.numbers made.nodes made.boxes made.fed
    (λ met numbers nodes ends fed.
    are_met s c.args.owners.now c.requires.1.0 shares c.requires.1.1.0 boxes (is ∙ c.in_ok-parts.ensures.boxes) now even all.kept all.places all.joined all.met met.items
    (numbers ∙ sym (mapped_twice (λ share. share.number) (λ part. part.share.value) parts) ∙ ap (map (λ share. share.number)) given)
    (nodes ∙ sym (mapped_twice (λ share. share.nodes.items) (λ part. part.share.value) parts) ∙ ap (map (λ share. share.nodes.items)) given)
    (ends ∙ back) fed)
