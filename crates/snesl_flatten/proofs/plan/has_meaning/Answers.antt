use Rattle.std.proofs.Common.{subst}
use Rattle.snesl_values.specs.Inputs.{FitDeclarations, dialect_of, environment_of}
use Rattle.snesl_types.specs.Typed.{typed_inputs, typed_text, typed_tree, typed_ty}
use Rattle.snesl_types.specs.declared.typed.TypedProgram.{TypedProgram}
use Rattle.flow_networks.specs.Graphs.{states_of, edges_of}
use Rattle.snesl_flatten.proofs.Meanings.{network_means}
use Rattle.snesl_flatten.proofs.plan.has_meaning.Goals as goal

pub returns : goal.returns
returns c =
    let graph = c.args.graph.now in
    let typed : TypedProgram = c.args.typed.now in
    let inputs = c.args.inputs.now in
    let environment = environment_of inputs in
    network_means (typed_text typed) (typed_tree typed) (typed_inputs typed) environment (states_of graph) (edges_of graph) c.graph_is_a_network.ensures.network c.requires.sources
    (typed_ty typed) typed.typed
    (subst (λ dialect. FitDeclarations dialect (typed_inputs typed) environment) c.requires.in_dialect
    (subst (λ declarations. FitDeclarations (dialect_of inputs) declarations environment) c.requires.fits c.inputs_fit.ensures))
    c.programs_are_planned.ensures c.soundness.ensures.programs c.plan_is_its_flow.ensures.forth c.plan_is_its_flow.ensures.back c.ended_is_lawful.ensures.complete c.print_tells.ensures
