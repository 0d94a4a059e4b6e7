-- How a program comes out by drives in steps.
use Rattle.std.proofs.Common.{◌≡◌, ◌∙◌, List, ap, length, subst, sym, ℕ}
use Rattle.flow_networks.specs.Alike.{RunsRestAlike}
use Rattle.flow_drives.specs.Drives.{ComesOut, EndsMaximalRun}
use Rattle.flow_networks.specs.declared.edge.Edge.{Edge}
use Rattle.flow_nodes.specs.StreamNodes.{node_behaviour}
use Rattle.kahn.specs.declared.outcome.Outcome.{Outcome}
use Rattle.snesl_flatten.specs.network.NodesAtRest.{FinalView}
use Rattle.snesl_flatten.specs.network.OneNetwork.{HaveOneNetwork}
use Rattle.snesl_flatten.specs.Networks.{StreamNodeState}
use Rattle.snesl_run.specs.Alike.{HaveOneOutcome}
use Rattle.snesl_run.specs.Runs.{CameOut, outcome_of, view_in_report}

-- how nodes came out, said of the network at its start and of the capacity
came_out_at : (rest : FinalView StreamNodeState) (edges : List Edge) (capacity : ℕ) (outcome : Outcome) → rest.edges ≡ edges → rest.capacity ≡ capacity
    → CameOut rest outcome → ComesOut node_behaviour rest.states edges capacity rest.traffic outcome
came_out_at rest edges capacity outcome same size came =
    subst (λ e. ComesOut node_behaviour rest.states e capacity rest.traffic outcome) same
    (subst (λ n. ComesOut node_behaviour rest.states rest.edges n rest.traffic outcome) size came)

-- a run of the network, said of one that is the same
run_at : (rest : FinalView StreamNodeState) (states others : List StreamNodeState) (edges more : List Edge) (capacity size : ℕ) → states ≡ others → edges ≡ more → size ≡ capacity
    → EndsMaximalRun node_behaviour size others more rest.states rest.traffic → EndsMaximalRun node_behaviour capacity states edges rest.states rest.traffic
run_at rest states others edges more capacity size same joined fits run =
    subst (λ l. EndsMaximalRun node_behaviour capacity l edges rest.states rest.traffic) (sym same)
    (subst (λ l. EndsMaximalRun node_behaviour capacity others l rest.states rest.traffic) (sym joined)
    (subst (λ n. EndsMaximalRun node_behaviour n others more rest.states rest.traffic) fits run))

pub one_outcome : HaveOneNetwork → RunsRestAlike node_behaviour → HaveOneOutcome
one_outcome networks alike program input config report reported steps other_config other size other_steps told =
    let one = reported.came in
    let two = told.came in
    let rest = view_in_report report in
    let last = view_in_report other in
    let same = networks program input one.states two.states one.edges two.edges one.start two.start in
    let run = run_at last one.states two.states one.edges two.edges config.capacity other_config.capacity same.0 same.1 size (two.run other_steps) in
    let a = alike config.capacity one.states one.edges one.start.joined rest.states last.states rest.traffic last.traffic
    one.same.nodes (two.same.nodes ∙ ap length (sym same.0)) (one.run steps) run in
    let first = came_out_at rest one.edges config.capacity (outcome_of report) one.same.same_edges one.capacity_is reported.outcome in
    let second = came_out_at last one.edges config.capacity (outcome_of other) (two.same.same_edges ∙ sym same.1) (two.capacity_is ∙ size) told.outcome in
    record {
      outcome = sym (a.outcome (outcome_of report) (outcome_of other) first second);
      states = sym a.states;
      sent = λ e. sym (a.sent e);
      received = λ e. sym (a.received e);
    }
