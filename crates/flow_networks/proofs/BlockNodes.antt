-- A node of a graph that moved a block.
use Rattle.std.proofs.Common.{◌≡◌, ℕ, ◌<◌, length, set, sym, ◌∙◌, ap, subst, arith}
use Rattle.flow_messages.specs.Kinds.{TakesKind}
use Rattle.flow_messages.specs.Ends.{View}
use Rattle.flow_base.specs.Transducers.{BehaviourLaws}
use Rattle.flow_base.specs.declared.transducer.Transducer.{Ghosts}
use Rattle.flow_base.specs.Visits.{edge_of, TakeKinds, Went}
use Rattle.flow_networks.specs.declared.graph.Graph.{Graph}
use Rattle.flow_networks.specs.declared.placed.Placed.{Placed}
use Rattle.flow_networks.specs.Edges.{edge_at, out_edge}
use Rattle.flow_networks.specs.Graphs.{states_of, edges_of}
use Rattle.flow_networks.specs.Networks.{outputs_at}
use Rattle.flow_networks.specs.Places.{placed_state, states_in, IsSamePlace}
use Rattle.flow_networks.specs.Blocks.{AreApart, MovesBlock}
use Rattle.flow_networks.specs.Standing.{stand_at, NodeEdgesTake}
use Rattle.flow_networks.proofs.GraphNodes.{IsNode, among_states, stands, input_count, output_count, input_is, output_is, later_state, later_others}

module _ {X : Type 0} {t : Ghosts X} {graph : Graph X t} {k : ℕ} {x : Placed X t} (at : IsNode graph k x) where
  port_there : (q : ℕ) → q < length x.outputs.items → q < outputs_at t.behaviour (states_of graph) k
  port_there q low = omega (arith, low, output_count at)

  -- each of its output ports has an edge of its own
  pub node_apart : AreApart x.outputs.items
  node_apart p q low high same =
      let wired = graph.built.wired in
      let first = port_there p low in
      let next = port_there q high in
      let joined : out_edge (edges_of graph) k p ≡ out_edge (edges_of graph) k q = sym (output_is at p first) ∙ same ∙ output_is at q next in
      sym (wired.out_edge k p (among_states at) first).2 ∙ ap (λ e. (edge_at (edges_of graph) e).writer_port) joined ∙ (wired.out_edge k q (among_states at) next).2

  -- the edges at its output ports take what it writes
  pub node_takes : (v : View) → NodeEdgesTake graph k v → TakeKinds x.outputs.items (t.behaviour.kind_out (placed_state x)) v
  node_takes v takes q low =
      let port = port_there q low in
      let at_edge = subst (λ e. TakesKind (v.kind e) (t.behaviour.kind_out (stand_at graph k) q)) (sym (output_is at q port)) (takes q port) in
      subst (λ s. TakesKind (v.kind (edge_of x.outputs.items q)) (t.behaviour.kind_out s q)) (sym (stands at)) at_edge

  pub node_moves : BehaviourLaws t.behaviour → (y : Placed X t) → IsSamePlace x y → (a v : View) (steps : ℕ) →
      Went x.inputs.items x.outputs.items t.behaviour (placed_state x) a (placed_state y) v steps →
      MovesBlock t.behaviour k (edges_of graph) (states_of graph) a (states_in (set graph.nodes.items k y)) v steps
  node_moves laws y place a v steps went = record {
    inputs = x.inputs.items;
    outputs = x.outputs.items;
    each_input = input_count at;
    each_output = output_count at;
    reads = input_is at;
    writes = output_is at;
    went = subst (λ s. Went x.inputs.items x.outputs.items t.behaviour (stand_at graph k) a s v steps) (sym (later_state at y))
        (subst (λ s. Went x.inputs.items x.outputs.items t.behaviour s a (placed_state y) v steps) (stands at) went);
    others = later_others at y place laws;
  }
