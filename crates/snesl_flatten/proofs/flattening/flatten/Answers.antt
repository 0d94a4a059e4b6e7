use Rattle.std.proofs.Common.{◌≡◌, ℕ, ◌<◌, ◌≤◌, ◌⊎◌, List, [], Some, Err, length, inl, sym, subst, ◌∙◌, ap, arith}
use Rattle.snesl_data.specs.declared.refusal.Refusal.TheVariants.{TooBig}
use Rattle.snesl_types.specs.Typed.{typed_inputs, typed_text, typed_tree}
use Rattle.flow_nodes.specs.StreamNodes.{node_behaviour}
use Rattle.flow_networks.specs.Graphs.{states_of, edges_of}
use Rattle.flow_networks.specs.Limits.{most_nodes, most_edges}
use Rattle.std.specs.List.{slice_get}
use Rattle.flow_nodes.specs.plans.Plans.{Step}
use Rattle.flow_nodes.specs.plans.Layouts.{Placed, layout, places, edges_needed, IsNetworkOfPlan}
use Rattle.flow_nodes.specs.plans.Ports.{AreWired}
use Rattle.flow_nodes.specs.plans.Views.{steps_of}
use Rattle.flow_assembly.specs.Openings.{AllOpen, IsUsable}
use Rattle.flow_assembly.proofs.Laying.{AllUsable, steps_usable, layout_fits}
use Rattle.snesl_translation.specs.Programs.{unset_cells}
use Rattle.snesl_flatten.specs.Networks.{program_steps}
use Rattle.snesl_flatten.specs.Unset.{HoldsNetwork}
use Rattle.snesl_flatten.proofs.Wired.{typed_wired, node_each, refused_with}
use Rattle.snesl_flatten.proofs.Held.{no_source_set}
use Rattle.snesl_flatten.proofs.flattening.flatten.Goals as goal

pub returns-in_err-steps-clause-big : goal.returns-in_err-steps-clause-big
returns-in_err-steps-clause-big c same =
    let typed = c.args.typed.now in
    let steps = program_steps (typed_text typed) (typed_tree typed) (typed_inputs typed) unset_cells in
    inl (omega (arith, node_each steps, c.in_err-steps.ensures.big (ap Err (refused_with c.from_residual.result c.in_err-steps.field-0.0 TooBig c.from_residual.ensures same))))

pub assemble-requires : goal.assemble-requires
assemble-requires c =
    let typed = c.args.typed.now in
    record {
      wired = subst (λ steps. AreWired [] steps) (sym (ap (λ d. steps_of d c.in_ok-steps.steps.items) c.dialect.ensures ∙ c.in_ok-steps.ensures.steps)) (typed_wired c.plans_are_wired.ensures typed);
    }

pub returns-in_err-assembled-clause-big : goal.returns-in_err-assembled-clause-big
returns-in_err-assembled-clause-big c same =
    subst (λ plan. (most_nodes < length (layout plan)) ⊎ (most_edges < edges_needed (layout plan))) (ap (λ d. steps_of d c.in_ok-steps.steps.items) c.dialect.ensures ∙ c.in_ok-steps.ensures.steps)
    (c.in_err-assembled.ensures.big (ap Err (refused_with c.from_residual-in_err-assembled.result c.in_err-assembled.field-0.0 TooBig c.from_residual-in_err-assembled.ensures same)))

pub invariant_of-result : goal.invariant_of-result
invariant_of-result c =
    let typed = c.args.typed.now in
    let assembled = c.in_ok-assembled.ensures in
    let graph = c.in_ok-assembled.assembled.graph in
    let steps = steps_of c.dialect.result c.in_ok-steps.steps.items in
    let is = ap (λ d. steps_of d c.in_ok-steps.steps.items) c.dialect.ensures ∙ c.in_ok-steps.ensures.steps in
    let wired : AreWired [] steps = subst (λ l. AreWired [] l) (sym is) (typed_wired c.plans_are_wired.ensures typed) in
    let usable : AllUsable steps = steps_usable c.dialect.result c.in_ok-steps.steps.items in
    let held : HoldsNetwork typed (states_of graph) (edges_of graph) c.in_ok-assembled.assembled.places.items = record {
      sources = no_source_set (typed_text typed) (typed_tree typed) (typed_inputs typed) (states_of graph) (edges_of graph) steps is assembled.network assembled.opens assembled.opened;
      usable = subst (λ (l : List Step). (k : ℕ) (placed : Placed) → slice_get (layout l) k ≡ Some placed → IsUsable placed.operation) is
          (λ k placed there. (layout_fits steps [] steps usable wired k placed there).usable);
      places_are = assembled.places ∙ ap places is;
    } in
    record { holds = ∣ held ∣₁ }

pub returns-clause-network : goal.returns-clause-network
returns-clause-network c =
    let graph = c.in_ok-assembled.assembled.graph in
    subst (λ plan. IsNetworkOfPlan node_behaviour plan (states_of graph) (edges_of graph)) (ap (λ d. steps_of d c.in_ok-steps.steps.items) c.dialect.ensures ∙ c.in_ok-steps.ensures.steps)
    c.in_ok-assembled.ensures.network

pub returns-clause-opens : goal.returns-clause-opens
returns-clause-opens c =
    let graph = c.in_ok-assembled.assembled.graph in
    subst (λ plan. AllOpen (layout plan) (states_of graph)) (ap (λ d. steps_of d c.in_ok-steps.steps.items) c.dialect.ensures ∙ c.in_ok-steps.ensures.steps)
    c.in_ok-assembled.ensures.opens

pub returns-clause-few : goal.returns-clause-few
returns-clause-few c =
    subst (λ plan. (length (layout plan) ≤ most_nodes) × (edges_needed (layout plan) ≤ most_edges)) (ap (λ d. steps_of d c.in_ok-steps.steps.items) c.dialect.ensures ∙ c.in_ok-steps.ensures.steps)
    c.in_ok-assembled.ensures.few
