use Rattle.std.proofs.Common.{◌<◌, ◌^◌, ◌∙◌, length, ap, subst, sym, arith}
use Rattle.snesl_values.specs.Inputs.{environment_of}
use Rattle.snesl_types.specs.Typed.{typed_inputs, typed_text, typed_tree}
use Rattle.flow_base.specs.Columns.{Columns}
use Rattle.flow_nodes.specs.StreamNodes.{node_behaviour}
use Rattle.flow_networks.specs.Graphs.{states_of, edges_of}
use Rattle.flow_nodes.specs.plans.Layouts.{layout, IsNetworkOfPlan}
use Rattle.flow_assembly.specs.Openings.{AllOpen}
use Rattle.snesl_translation.specs.Programs.{columns_of}
use Rattle.snesl_flatten.specs.Networks.{program_steps}
use Rattle.snesl_flatten.specs.PlanViews.{plan_typed, plan_states, plan_edges}
use Rattle.snesl_flatten.specs.Sources.{all_kinds, source_columns}
use Rattle.snesl_flatten.proofs.Kept.{places_kept, sources_kept}
use Rattle.snesl_flatten.proofs.SetSources.{sources_fit}
use Rattle.snesl_flatten.proofs.plan.Plan.with.Goals as goal

pub set_sources-requires-clause-sources : goal.set_sources-requires-clause-sources
set_sources-requires-clause-sources c =
    let plan = c.args.self in
    sources_kept (plan_typed plan) (plan_states plan) (plan_edges plan) plan.places.items plan.holds c.openings_perform.ensures

pub set_sources-requires-clause-places : goal.set_sources-requires-clause-places
set_sources-requires-clause-places c =
    let plan = c.args.self in
    places_kept (plan_typed plan) (plan_states plan) (plan_edges plan) plan.places.items plan.holds

pub returns-clause-network : goal.returns-clause-network
returns-clause-network c =
    let typed = plan_typed c.args.self in
    let graph = c.set_sources.new.graph in
    let environment = environment_of c.args.inputs in
    subst (λ (columns : Columns). IsNetworkOfPlan node_behaviour (program_steps (typed_text typed) (typed_tree typed) (typed_inputs typed) (source_columns columns)) (states_of graph) (edges_of graph))
    (c.in_ok-sources.ensures.cells ∙ ap (λ inputs. columns_of inputs environment) c.decls.ensures)
    c.set_sources.ensures.sources.network

pub returns-clause-opens : goal.returns-clause-opens
returns-clause-opens c =
    let typed = plan_typed c.args.self in
    let graph = c.set_sources.new.graph in
    let environment = environment_of c.args.inputs in
    subst (λ (columns : Columns). AllOpen (layout (program_steps (typed_text typed) (typed_tree typed) (typed_inputs typed) (source_columns columns))) (states_of graph))
    (c.in_ok-sources.ensures.cells ∙ ap (λ inputs. columns_of inputs environment) c.decls.ensures)
    c.set_sources.ensures.sources.opens

pub sources_of_inputs-requires-clause-fits : goal.sources_of_inputs-requires-clause-fits
sources_of_inputs-requires-clause-fits c =
    let plan = c.args.self in
    let typed = plan_typed plan in
    let fits = sources_fit (typed_text typed) (typed_tree typed) (typed_inputs typed) in
    let places_are = places_kept typed (plan_states plan) (plan_edges plan) plan.places.items plan.holds in
    subst (λ ds. length (all_kinds ds) < 2 ^ 64) (sym c.decls.ensures) (omega (arith, fits, ap length places_are, plan.places.ok.0))
