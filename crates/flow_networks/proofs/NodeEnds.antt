-- The ends of the edges at the ports of one node.
use Rattle.std.proofs.Common.{◌≡◌, ℕ, ◌<◌, true, List, length, get_or, sym, ◌∙◌, ap, subst, arith}
use Rattle.std.specs.List.{All}
use Rattle.std.proofs.lemmas.List.{get_or_default}
use Rattle.std.specs.Prelude.{Bool, IsTrue, ◌↔◌}
use Rattle.flow_messages.specs.declared.message.Kind.{Kind}
use Rattle.flow_messages.specs.Kinds.{TakesKind}
use Rattle.flow_messages.specs.Ends.{View}
use Rattle.flow_base.specs.Transducers.{Behaviour}
use Rattle.flow_base.specs.declared.transducer.Transducer.{Ghosts}
use Rattle.flow_networks.specs.declared.edge.Edge.{Edge}
use Rattle.flow_networks.specs.declared.graph.Graph.{Graph}
use Rattle.flow_networks.specs.declared.placed.Placed.{Placed}
use Rattle.flow_networks.specs.Edges.{in_edge, out_edge}
use Rattle.flow_networks.specs.Networks.{inputs_at, outputs_at, IsJoined, HasEnds}
use Rattle.flow_networks.specs.Visits.{HasAllEnds}
use Rattle.flow_networks.specs.Graphs.{states_of, edges_of}
use Rattle.flow_networks.specs.Places.{placed_state}
use Rattle.flow_networks.specs.Standing.{stand_at, NodeHasEnds}
use Rattle.flow_networks.proofs.GraphNodes.{IsNode, stands, input_count, output_count, input_is, output_is}

-- where all ends are there, those of each node are
pub all_node_ends : {S : Type 0} (b : Behaviour S) (states : List S) (edges : List Edge) (view : View) → IsJoined b states edges →
    HasAllEnds (length edges) view → (k : ℕ) → HasEnds b states edges k view
all_node_ends b states edges view joined all k =
    record { reads = λ p l. (all (in_edge edges k p) (joined.inputs k p l)).1; writes = λ q l. (all (out_edge edges k q) (joined.outputs k q l)).0 }

pub all_graph_ends : {X : Type 0} {t : Ghosts X} (graph : Graph X t) (view : View) → HasAllEnds (length (edges_of graph)) view → (k : ℕ) → NodeHasEnds graph k view
all_graph_ends {t = t} graph view all k = all_node_ends t.behaviour (states_of graph) (edges_of graph) view graph.built.joined all k

module _ {X : Type 0} {t : Ghosts X} {graph : Graph X t} {k : ℕ} {x : Placed X t} (at : IsNode graph k x) where
  -- the edge at an output
  pub edge_there : (q e : ℕ) → q < length x.outputs.items → e ≡ get_or x.outputs.items q e → e ≡ out_edge (edges_of graph) k q
  edge_there q e l read = read ∙ get_or_default x.outputs.items q e 0 l ∙ output_is at q (omega (arith, l, output_count at))

  module _ (view : View) where
    pub ends_from : All (λ e. view.reads e ≡ true) x.inputs.items → All (λ e. view.writes e ≡ true) x.outputs.items → NodeHasEnds graph k view
    ends_from reads writes = record {
      reads = λ p h. ap view.reads (sym (input_is at p h)) ∙ reads p 0 (omega (arith, h, input_count at));
      writes = λ q h. ap view.writes (sym (output_is at q h)) ∙ writes q 0 (omega (arith, h, output_count at));
    }

    pub ends_reads : NodeHasEnds graph k view → All (λ e. view.reads e ≡ true) x.inputs.items
    ends_reads ends p d l =
        let port : p < inputs_at t.behaviour (states_of graph) k = omega (arith, l, input_count at) in
        ap view.reads (get_or_default x.inputs.items p d 0 l ∙ input_is at p port) ∙ ends.reads p port

    pub ends_writes : NodeHasEnds graph k view → All (λ e. view.writes e ≡ true) x.outputs.items
    ends_writes ends q d l =
        let port : q < outputs_at t.behaviour (states_of graph) k = omega (arith, l, output_count at) in
        ap view.writes (get_or_default x.outputs.items q d 0 l ∙ output_is at q port) ∙ ends.writes q port

    -- the edge takes what the node may put
    pub takes_there : (q e : ℕ) (kind : Kind) (r : Bool) → q < length x.outputs.items → e ≡ get_or x.outputs.items q e → kind
        ≡ t.behaviour.kind_out (placed_state x) q → IsTrue r ↔ TakesKind (view.kind e) kind →
        IsTrue r ↔ TakesKind (view.kind (out_edge (edges_of graph) k q)) (t.behaviour.kind_out (stand_at graph k) q)
    takes_there q e kind r l read is_kind takes =
        let same = is_kind ∙ ap (λ s. t.behaviour.kind_out s q) (stands at) in
        subst (λ f. IsTrue r ↔ TakesKind (view.kind f) (t.behaviour.kind_out (stand_at graph k) q)) (edge_there q e l read)
        (subst (λ j. IsTrue r ↔ TakesKind (view.kind e) j) same takes)
