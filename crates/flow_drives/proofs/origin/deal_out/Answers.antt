use Rattle.std.proofs.Common.{length, refl, sym, ◌∙◌, ap, subst, arith}
use Rattle.std.proofs.lemmas.List.{length-map}
use Rattle.flow_networks.specs.Graphs.{states_of}
use Rattle.flow_networks.specs.Skeletons.{nodes_of}
use Rattle.flow_networks.specs.Places.{placed_state}
use Rattle.flow_shares.specs.meetings.Deals.{IsDealt}
use Rattle.flow_networks.proofs.Refused.{nothing_made}
use Rattle.flow_drives.proofs.origin.deal_out.Goals as goal

pub returns-clause-origin : goal.returns-clause-origin
returns-clause-origin g c =
    let origin = c.of-origin.result.value in
    record {
      named = omega (arith, c.requires.lawful.entries.some, c.in_ok-share.ensures.len, ap length c.deref.ensures.value);
      nodes = c.nodes-nodes.ensures ∙ ap (λ graph. length (states_of graph)) (sym c.of-origin.ensures) ∙ length-map (nodes_of origin) placed_state;
      share = refl;
      capacity = refl;
    }

pub returns-clause-dealt : goal.returns-clause-dealt
returns-clause-dealt g c =
    let joins = g.E.Meeting.joins in
    let places = g.E.Meeting.slots in
    let config = c.args.config.now in
    let share = c.in_ok-share.share.items in
    let dealt = c.in_ok-dealt.dealt in
    subst (λ graph. IsDealt joins places graph config.threads share config.capacity dealt) (sym c.of-origin.ensures)
    (subst (λ s. IsDealt joins places c.args.graph config.threads s config.capacity dealt) c.deref-2.ensures.value c.in_ok-dealt.ensures)

pub returns-in_err-share : goal.returns-in_err-share
returns-in_err-share g c =
    let r = c.from_residual.result in
    let h = c.from_residual.ensures.1 in
    record {
      graph = nothing_made r _ _ h;
      capacity = nothing_made r _ _ h;
      share = nothing_made r _ _ h;
      origin = nothing_made r _ _ h;
      dealt = nothing_made r _ _ h;
    }

pub returns-in_err-dealt : goal.returns-in_err-dealt
returns-in_err-dealt g c =
    let r = c.from_residual-in_err-dealt.result in
    let h = c.from_residual-in_err-dealt.ensures.1 in
    record {
      graph = nothing_made r _ _ h;
      capacity = nothing_made r _ _ h;
      share = nothing_made r _ _ h;
      origin = nothing_made r _ _ h;
      dealt = nothing_made r _ _ h;
    }
