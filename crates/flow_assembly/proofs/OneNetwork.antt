-- A plan has one network.
use Rattle.std.specs.Prelude.{◌≡◌, ℕ, zero, suc, ◌<◌, List, [], ◌∷◌, length, refl}
use Rattle.std.proofs.Common.{sym, ◌∙◌, ap, subst, arith, get_or}
use Rattle.std.proofs.Math.Path.{ap₂}
use Rattle.std.proofs.Props.{props}
use Rattle.flow_messages.specs.Cells.{Cell}
use Rattle.flow_messages.specs.declared.message.Kind.{Kind}
use Rattle.flow_base.specs.Ranges.{AllOf}
use Rattle.flow_scalar.specs.Streams.{Items}
use Rattle.flow_scalar.specs.SourceBehaviour.{source_opening}
use Rattle.flow_networks.specs.Networks.{state_at}
use Rattle.flow_nodes.specs.StreamNodes.{NodeKind, member, node_behaviour, a_source}
use Rattle.flow_nodes.specs.plans.Plans.{Operation, source}
use Rattle.flow_nodes.specs.plans.Layouts.{layout}
use Rattle.flow_assembly.specs.Openings.{IsOpening}
use Rattle.flow_assembly.specs.OneNetwork.{PlansHaveOneNetwork}
use Rattle.flow_assembly.proofs.Fitting.{stands_at}

abbrev State : Type 0
State = (t : NodeKind) × (member t).State

AllOf-prop : (kind : Kind) (cells : List Cell) → IsProp (AllOf kind cells)
AllOf-prop kind [] = hlevel
AllOf-prop kind (x ∷ cells) = hlevel (props, AllOf-prop kind cells)

-- items of one kind that carry the same are the same
items_same : (a b : Items) → a.kind ≡ b.kind → a.cells ≡ b.cells → a ≡ b
items_same a b kind cells =
    subst (λ k. (q : AllOf k b.cells) → a ≡ (record { kind = k; cells = b.cells; all_of = q })) kind
    (subst (λ l. (q : AllOf a.kind l) → a ≡ (record { kind = a.kind; cells = l; all_of = q })) cells
    (λ q. ap (λ p. (let items : Items = record { kind = a.kind; cells = a.cells; all_of = p } in items)) (AllOf-prop a.kind a.cells a.all_of q))) b.all_of

abbrev opened_source : Items → State
opened_source items = (a_source, source_opening items)

-- the transducer of an operation opens in one state
opens_once : (at : ℕ) (operation : Operation) (s t : State) → IsOpening at operation s → IsOpening at operation t → s ≡ t
opens_once at (source kind cells) s t one other =
    one.1 ∙ ap opened_source (items_same one.0 other.0 (one.2 ∙ sym other.2) (one.3 ∙ sym other.3)) ∙ sym other.1
opens_once at _ s t one other = one ∙ sym other

same_lists : {A : Type 0} (d : A) (xs ys : List A) → length xs ≡ length ys → ((k : ℕ) → k < length xs → get_or xs k d ≡ get_or ys k d) → xs ≡ ys
same_lists d [] [] e at = refl
same_lists d [] (y ∷ ys) e at = absurd (omega arith)
same_lists d (x ∷ xs) [] e at = absurd (omega arith)
same_lists d (x ∷ xs) (y ∷ ys) e at = ap₂ (λ z l. z ∷ l) (at zero (omega arith)) (same_lists d xs ys (omega arith) (λ k lt. at (suc k) (omega arith)))

pub one_network : PlansHaveOneNetwork
one_network plan states others edges more one other = (
  same_lists node_behaviour.sample states others (one.network.nodes ∙ sym other.network.nodes) (λ k lt.
      let node = stands_at (layout plan) k (omega (arith, one.network.nodes)) in
      opens_once node.0.at node.0.operation (state_at node_behaviour states k) (state_at node_behaviour others k) (one.opens k node.0 node.1) (other.opens k node.0 node.1)),
  one.network.edges_are ∙ sym other.network.edges_are,
)
