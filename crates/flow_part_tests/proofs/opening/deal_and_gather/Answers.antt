use Rattle.std.proofs.Common.{length, sym, ◌∙◌, ap, subst}
use Rattle.std.proofs.lemmas.List.{length-map}
use Rattle.flow_networks.specs.Skeletons.{nodes_of}
use Rattle.flow_networks.specs.Places.{placed_state}
use Rattle.flow_shares.specs.Deals.{AreDealt}
use Rattle.flow_shares.proofs.Stays.{as_given}
use Rattle.flow_shares.specs.meetings.Deals.{nodes_in}
use Rattle.flow_part_tests.proofs.opening.deal_and_gather.Goals as goal

pub gather_graph-requires : goal.gather_graph-requires
gather_graph-requires g c κs within =
    let clauses = c.requires.1.1 in
    let is = sym clauses.0 in
    let graph = c.args.graph in
    let share = c.args.share.now in
    let shares = c.in_ok-dealt.dealt.shares.items in
    let dealt = c.in_ok-dealt.ensures in
    let nodes = c.nodes-nodes.ensures ∙ length-map (nodes_of graph) placed_state in
    let deals = as_given share (nodes_of graph) (nodes_in shares) dealt.nodes in (
      within.0,
      (
        within.1,
        (
          clauses.1.1.0,
          (
            nodes ∙ ap (λ s. length s.nodes) is,
            (ap (λ s. s.share) is, (dealt.skeleton ∙ ap (λ s. s.edges) is, subst (λ s. AreDealt s.share s.nodes (nodes_in shares)) is deals)),
          ),
        ),
      ),
    )
