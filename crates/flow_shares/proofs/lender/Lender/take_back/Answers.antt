use Rattle.std.proofs.Common.{sym, ◌∙◌, subst}
use Rattle.std.specs.List.{All}
use Rattle.flow_shares.specs.Shares.{HasItsEnds, AreApart, IsOwn}
use Rattle.flow_shares.proofs.Later.{same_places_refl, there_later}
use Rattle.flow_shares.proofs.Lending.{own_stay}
use Rattle.flow_shares.proofs.lender.Lender.take_back.Goals as goal

pub invariant_of-result : goal.invariant_of-result
invariant_of-result g c =
    let lender = c.args.self in
    let share = lender.share.value in
    let before = g.E.Ends.view share.ends in
    let after = g.E.Ends.view c.args.ends in
    record {
      there = subst (λ nodes. All (HasItsEnds after) nodes.items) (sym lender.same_nodes)
          (there_later share.nodes.items share.nodes.items (same_places_refl share.nodes.items) before after c.requires.ends share.there);
      apart = subst (λ nodes. AreApart nodes.items) (sym lender.same_nodes) share.apart;
      own = λ fed. subst (λ nodes. All (IsOwn after) nodes.items) (sym lender.same_nodes) (own_stay share.nodes.items before after c.requires.traffic (share.own (sym lender.same_starved ∙ fed)));
    }
