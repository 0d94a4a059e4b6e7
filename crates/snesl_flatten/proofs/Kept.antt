-- What a plan keeps of its network.
use Rattle.std.proofs.Common.{◌≡◌, ℕ, ◌<◌, List, [], length, Option, Some, refl}
use Rattle.std.proofs.Math.Logic.{∥∥₁_elim}
use Rattle.std.proofs.Props.{props}
use Rattle.std.specs.List.{slice_get}
use Rattle.snesl_types.specs.Typed.{typed_inputs, typed_text, typed_tree}
use Rattle.snesl_types.specs.declared.typed.TypedProgram.{TypedProgram}
use Rattle.flow_nodes.specs.StreamNodes.{node_behaviour}
use Rattle.flow_networks.specs.declared.edge.Edge.{Edge}
use Rattle.flow_networks.specs.Edges.{edge_at}
use Rattle.flow_networks.specs.Networks.{AreOpened}
use Rattle.flow_nodes.specs.plans.Plans.{Step}
use Rattle.flow_nodes.specs.plans.Ports.{kinds_read}
use Rattle.flow_nodes.specs.plans.Layouts.{Placed, layout, places, stream_from, stream_to, edges_between, IsNetworkOfPlan}
use Rattle.flow_assembly.specs.Openings.{AllOpen, IsUsable, OpeningsPerform}
use Rattle.snesl_flatten.specs.Networks.{StreamNodeState}
use Rattle.snesl_flatten.specs.Sources.{HasSources}
use Rattle.snesl_flatten.specs.Unset.{unset_steps, HoldsNetwork}
use Rattle.snesl_flatten.proofs.Held.{no_source_set}
use Rattle.snesl_flatten.proofs.Once.{AreOpened-prop, IsOpening-prop, IsUsable-prop, edges_are_a_set}

module _ (typed : TypedProgram) (states : List StreamNodeState) (edges : List Edge) (at : List ℕ) (kept : ∥ HoldsNetwork typed states edges at ∥₁) where
  abbrev steps : List Step
  steps = unset_steps typed

  -- the nodes of the steps are where it says
  pub places_kept : at ≡ places steps
  places_kept =
      let once : IsProp (at ≡ places steps) = hlevel props in
      ∥∥₁_elim kept once (λ h. h.places_are)

  nodes : length states ≡ length (layout steps)
  nodes =
      let once : IsProp (length states ≡ length (layout steps)) = hlevel props in
      ∥∥₁_elim kept once (λ h. h.sources.network.laid.nodes)

  reads : (k : ℕ) (placed : Placed) → slice_get (layout steps) k ≡ Some placed → length placed.reads ≡ length (kinds_read placed.operation)
  reads k placed there =
      let once : IsProp (length placed.reads ≡ length (kinds_read placed.operation)) = hlevel props in
      ∥∥₁_elim kept once (λ h. h.sources.network.laid.reads k placed there)

  joins : (e : ℕ) → e < length edges
      → stream_from (layout steps) (edge_at edges e).writer (edge_at edges e).writer_port
      ≡ stream_to (layout steps) (edge_at edges e).reader (edge_at edges e).reader_port
  joins e lt =
      let once : (a b : Option ℕ) → IsProp (a ≡ b) = hlevel props in
      ∥∥₁_elim kept (once _ _) (λ h. h.sources.network.laid.joins e lt)

  edges_are : edges ≡ edges_between (layout steps)
  edges_are =
      let once : IsProp (edges ≡ edges_between (layout steps)) = hlevel (props, edges_are_a_set) in
      ∥∥₁_elim kept once (λ h. h.sources.network.laid.edges_are)

  opens : AllOpen (layout steps) states
  opens k placed there = ∥∥₁_elim kept (IsOpening-prop placed.at placed.operation _) (λ h. h.sources.opens k placed there)

  opened : AreOpened node_behaviour states
  opened = ∥∥₁_elim kept (AreOpened-prop states) (λ h. h.sources.opened)

  usable : (k : ℕ) (placed : Placed) → slice_get (layout steps) k ≡ Some placed → IsUsable placed.operation
  usable k placed there = ∥∥₁_elim kept (IsUsable-prop placed.operation) (λ h. h.usable k placed there)

  -- it is the network of the program, no source of which is set
  pub sources_kept : OpeningsPerform → HasSources (typed_text typed) (typed_tree typed) (typed_inputs typed) [] states edges
  sources_kept perform =
      let network : IsNetworkOfPlan node_behaviour steps states edges = record {
        laid = record { nodes = nodes; reads = reads; joins = joins; edges_are = edges_are };
        performs = λ k placed there. perform placed.at placed.operation _ (usable k placed there) (opens k placed there);
      } in
      no_source_set (typed_text typed) (typed_tree typed) (typed_inputs typed) states edges steps refl network opens opened
