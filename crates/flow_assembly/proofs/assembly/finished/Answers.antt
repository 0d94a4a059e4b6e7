use Rattle.std.proofs.Common.{length, [], sym, subst, ◌∙◌}
use Rattle.flow_networks.specs.Graphs.{edges_of, states_so_far, edges_so_far}
use Rattle.flow_networks.specs.Networks.{AreOpened}
use Rattle.flow_nodes.specs.StreamNodes.{node_behaviour}
use Rattle.flow_nodes.specs.plans.Layouts.{layout, IsNetworkOfPlan}
use Rattle.flow_nodes.specs.plans.Ports.{kinds_after}
use Rattle.flow_assembly.specs.Openings.{AllOpen}
use Rattle.flow_assembly.specs.Ready.{plan_of}
use Rattle.flow_assembly.proofs.Finishing.{plan_ended, all_places, few_nodes, few_edges, all_edges, all_open, is_joined, are_opened, is_network}
use Rattle.flow_assembly.proofs.Putting.{plan_fits}
use Rattle.flow_assembly.proofs.assembly.finished.Goals as goal

pub build-requires : goal.build-requires
build-requires c = is_joined (plan_of c.args.plan.now) (length c.args.plan.now.steps.items) c.args.network.supply.items c.args.network.places.items
    (states_so_far c.args.network.builder) (edges_so_far c.args.network.builder) c.requires.built (plan_ended c.args.plan.now)
    (kinds_after [] (plan_of c.args.plan.now)) c.openings_perform.ensures (plan_fits c.args.plan.now c.requires.wired)

pub returns-clause-network : goal.returns-clause-network
returns-clause-network c =
    subst (λ states. IsNetworkOfPlan node_behaviour (plan_of c.args.plan.now) states (edges_of c.build.result)) (sym c.build.ensures.nodes)
    (subst (IsNetworkOfPlan node_behaviour (plan_of c.args.plan.now) (states_so_far c.args.network.builder)) (sym c.build.ensures.edges)
    (is_network (plan_of c.args.plan.now) (length c.args.plan.now.steps.items) c.args.network.supply.items c.args.network.places.items
    (states_so_far c.args.network.builder) (edges_so_far c.args.network.builder) c.requires.built (plan_ended c.args.plan.now)
    (kinds_after [] (plan_of c.args.plan.now)) c.openings_perform.ensures (plan_fits c.args.plan.now c.requires.wired)))

pub returns-clause-edges : goal.returns-clause-edges
returns-clause-edges c = c.build.ensures.edges
    ∙ all_edges (plan_of c.args.plan.now) (length c.args.plan.now.steps.items) c.args.network.supply.items c.args.network.places.items
    (states_so_far c.args.network.builder) (edges_so_far c.args.network.builder) c.requires.built (plan_ended c.args.plan.now)

pub returns-clause-opens : goal.returns-clause-opens
returns-clause-opens c =
    subst (AllOpen (layout (plan_of c.args.plan.now))) (sym c.build.ensures.nodes)
    (all_open (plan_of c.args.plan.now) (length c.args.plan.now.steps.items) c.args.network.supply.items c.args.network.places.items
    (states_so_far c.args.network.builder) (edges_so_far c.args.network.builder) c.requires.built (plan_ended c.args.plan.now))

pub returns-clause-opened : goal.returns-clause-opened
returns-clause-opened c =
    subst (AreOpened node_behaviour) (sym c.build.ensures.nodes)
    (are_opened (plan_of c.args.plan.now) (length c.args.plan.now.steps.items) c.args.network.supply.items c.args.network.places.items
    (states_so_far c.args.network.builder) (edges_so_far c.args.network.builder) c.requires.built (plan_ended c.args.plan.now)
    (kinds_after [] (plan_of c.args.plan.now)) c.openings_perform.ensures (plan_fits c.args.plan.now c.requires.wired))

pub returns-clause-places : goal.returns-clause-places
returns-clause-places c =
    all_places (plan_of c.args.plan.now) (length c.args.plan.now.steps.items) c.args.network.supply.items c.args.network.places.items
    (states_so_far c.args.network.builder) (edges_so_far c.args.network.builder) c.requires.built (plan_ended c.args.plan.now)

pub returns-clause-few : goal.returns-clause-few
returns-clause-few c = (
  few_nodes (plan_of c.args.plan.now) (length c.args.plan.now.steps.items) c.args.network.supply.items c.args.network.places.items
      (states_so_far c.args.network.builder) (edges_so_far c.args.network.builder) c.requires.built (plan_ended c.args.plan.now),
  few_edges (plan_of c.args.plan.now) (length c.args.plan.now.steps.items) c.args.network.supply.items c.args.network.places.items
      (states_so_far c.args.network.builder) (edges_so_far c.args.network.builder) c.requires.built (plan_ended c.args.plan.now),
)
