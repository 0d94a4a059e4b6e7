-- A plan of which nothing is built, and one that is built whole.
use Rattle.std.specs.Prelude.{◌≡◌, ℕ, ◌≤◌, List, [], ◌++◌, length, drop, Some, refl}
use Rattle.std.specs.List.{slice_get}
use Rattle.std.proofs.Common.{sym, ◌∙◌, ap, subst, arith, inl, inr, append-nil}
use Rattle.std.proofs.Math.ListN.{drop_of_length-le}
use Rattle.std.proofs.lemmas.List.{length-drop, length-map}
use Rattle.std.proofs.lemmas.List.Elements.{All-from_get_or}
use Rattle.std.proofs.lemmas.Option.{slice_get_within}
use Rattle.flow_messages.specs.declared.message.Kind.{Kind}
use Rattle.flow_networks.specs.declared.edge.Edge.{Edge}
use Rattle.flow_networks.specs.Limits.{most_nodes, most_edges}
use Rattle.flow_networks.specs.Networks.{AreOpened, IsJoined, state_at}
use Rattle.flow_nodes.specs.StreamNodes.{NodeKind, member, node_behaviour}
use Rattle.flow_nodes.specs.plans.Plans.{Step}
use Rattle.flow_nodes.specs.plans.Ports.{kinds_read}
use Rattle.flow_nodes.specs.plans.Views.{step_of}
use Rattle.flow_nodes.specs.plans.Layouts.{Placed, uses, layout, layout_from, places, places_from, edges_needed, edges_between, Performs, IsNetworkOfPlan}
use Rattle.flow_assembly.specs.declared.network.Port.{Port}
use Rattle.flow_assembly.specs.Openings.{AllOpen, OpeningsPerform}
use Rattle.flow_assembly.specs.declared.counted_steps.CountedSteps.{CountedSteps}
use Rattle.flow_assembly.specs.Ready.{plan_of, IsBuiltTo}
use Rattle.flow_assembly.proofs.Fitting.{FitsKinds, each_length, stands_at}
use Rattle.flow_assembly.proofs.Joining.{finished}
use Rattle.flow_assembly.proofs.Ordering.{nothing_ordered, all_ordered}

pub nothing_built : (plan : List Step) → IsBuiltTo plan 0 [] [] [] []
nothing_built plan = record {
  inside = omega arith;
  nodes = refl;
  streams = refl;
  steps = refl;
  places = refl;
  within = record { few_nodes = omega arith; few_edges = omega arith; all_edges = omega arith };
  joined = record {
    opens = λ k placed lt at. absurd (omega arith);
    joins = λ e lt. absurd (omega arith);
    readers = λ e lt. absurd (omega arith);
    writers = λ e lt. absurd (omega arith);
    read = λ k q s before to. elim before [ inl lt ↦ absurd (omega arith) | inr at ↦ absurd (omega (arith, at.1)) ];
    written = λ k q s lt from. absurd (omega arith);
    known = λ k q s lt from. absurd (omega arith);
    node = λ s lt left. absurd (omega arith);
    stream = λ s i lt left. absurd (omega arith);
    free = λ s i lt left. absurd (omega arith);
    fits = λ s lt. absurd (omega arith);
    order = nothing_ordered (layout plan) (λ s. uses s plan);
  };
}

-- nor is anything of it where all is empty
pub empty_built : (plan : List Step) (supply : List Port) (found : List ℕ) (states : List ((t : NodeKind) × (member t).State)) (edges : List Edge)
    → supply ≡ [] → found ≡ [] → states ≡ [] → edges ≡ [] → IsBuiltTo plan 0 supply found states edges
empty_built plan supply found states edges one two three four =
    subst (λ x. IsBuiltTo plan 0 x found states edges) (sym one) (subst (λ x. IsBuiltTo plan 0 [] x states edges) (sym two)
    (subst (λ x. IsBuiltTo plan 0 [] [] x edges) (sym three) (subst (λ x. IsBuiltTo plan 0 [] [] [] x) (sym four) (nothing_built plan))))

-- after its last step a plan has none
pub plan_ended : (plan : CountedSteps) → drop (length plan.steps.items) (plan_of plan) ≡ []
plan_ended plan = drop_of_length-le (plan_of plan) (omega (arith, length-map plan.steps.items (step_of plan.dialect)))

module _ (plan : List Step) (n : ℕ) (supply : List Port) (found : List ℕ) (states : List ((t : NodeKind) × (member t).State)) (edges : List Edge)
    (built : IsBuiltTo plan n supply found states edges) (ended : drop n plan ≡ []) where
  none_to_come : drop (length states) (layout plan) ≡ []
  none_to_come = built.nodes ∙ ap (layout_from plan (length supply)) ended

  all_nodes : length states ≡ length (layout plan)
  all_nodes = omega (arith, built.inside, length-drop (length states) (layout plan), ap length none_to_come)

  pub all_places : found ≡ places plan
  all_places = sym (append-nil found) ∙ sym (ap (λ l. found ++ places_from plan (length states) (length supply) l) ended) ∙ built.places

  pub few_nodes : length (layout plan) ≤ most_nodes
  few_nodes = omega (arith, all_nodes, built.within.few_nodes)

  pub few_edges : edges_needed (layout plan) ≤ most_edges
  few_edges = omega (arith, built.within.all_edges, built.within.few_edges, ap edges_needed none_to_come)

  pub all_open : AllOpen (layout plan) states
  all_open k placed at = built.joined.opens k placed (omega (arith, slice_get_within (layout plan) k placed at, all_nodes)) at

  pub all_edges : edges ≡ edges_between (layout plan)
  all_edges = all_ordered (layout plan) (λ s. uses s (drop n plan)) supply (length states) edges built.joined.order (omega (arith, all_nodes))

  module _ (kinds : List Kind) (perform : OpeningsPerform) (fit : (k : ℕ) (placed : Placed) → slice_get (layout plan) k ≡ Some placed → FitsKinds kinds placed) where
    does : (k : ℕ) (placed : Placed) → slice_get (layout plan) k ≡ Some placed → Performs node_behaviour placed.operation (state_at node_behaviour states k)
    does k placed at = perform placed.at placed.operation (state_at node_behaviour states k) (fit k placed at).usable (all_open k placed at)

    pub is_joined : IsJoined node_behaviour states edges
    is_joined = finished (layout plan) (λ s. uses s (drop n plan)) supply states edges built.joined kinds perform fit all_nodes (λ t. ap (uses t) ended)

    pub are_opened : AreOpened node_behaviour states
    are_opened = All-from_get_or (λ s. node_behaviour.opening s ≡ s) states node_behaviour.sample
        (λ k lt. let node = stands_at (layout plan) k (omega (arith, all_nodes)) in (does k node.0 node.1).opened)

    pub is_network : IsNetworkOfPlan node_behaviour plan states edges
    is_network = record {
      laid = record {
        nodes = all_nodes;
        reads = λ k placed at. sym (each_length (slice_get kinds) placed.reads (kinds_read placed.operation) (fit k placed at).reads);
        joins = built.joined.joins;
        edges_are = all_edges;
      };
      performs = does;
    }
