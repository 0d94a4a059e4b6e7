use Rattle.std.proofs.Common.{refl}
use Rattle.flow_shares.proofs.Later.{same_places_refl, there_later}
use Rattle.flow_shares.proofs.Lending.{own_stay}
use Rattle.flow_shares.proofs.share.Share.is_stuck.Goals as goal

pub invariant_of-self : goal.invariant_of-self
invariant_of-self g c =
    let share = c.args.self.now in
    let before = g.E.Ends.view share.ends in
    let after = g.E.Ends.view c.are_stuck.new.ends in
    let looked = c.are_stuck.ensures.looked in
    record {
      there = there_later share.nodes.items share.nodes.items (same_places_refl share.nodes.items) before after looked.ends share.there;
      apart = share.apart;
      own = λ fed. own_stay share.nodes.items before after looked.traffic (share.own fed);
    }

pub returns-clause-looked : goal.returns-clause-looked
returns-clause-looked g c = record { body = refl; same = c.are_stuck.ensures.same; looked = c.are_stuck.ensures.looked }
