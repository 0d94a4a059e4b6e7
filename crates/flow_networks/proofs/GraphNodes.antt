-- A node of a graph in its place, as the code reads it, and the graph with it later.
use Rattle.std.proofs.Common.{◌≡◌, ℕ, ◌<◌, length, get_or, set, map, sym, ◌∙◌, ap, arith}
use Rattle.std.proofs.lemmas.List.{length-map, get_or_default}
use Rattle.kahn.specs.declared.want.Want.TheVariants.{Read, Write}
use Rattle.flow_base.specs.Transducers.{BehaviourLaws}
use Rattle.flow_base.specs.declared.transducer.Transducer.{Ghosts}
use Rattle.flow_networks.specs.declared.graph.Graph.{Graph}
use Rattle.flow_networks.specs.declared.placed.Placed.{Placed}
use Rattle.flow_networks.specs.Edges.{in_edge, out_edge}
use Rattle.flow_networks.specs.Graphs.{states_of, edges_of}
use Rattle.flow_networks.specs.Kept.{IsBuilt}
use Rattle.flow_networks.specs.Networks.{state_at, inputs_at, outputs_at, SameBut}
use Rattle.flow_networks.specs.Places.{placed_state, states_in, AreSeated, IsSamePlace}
use Rattle.flow_networks.specs.Standing.{stand_at, wanted_at}
use Rattle.flow_networks.proofs.Reached.{states_set, states_kept, state_written, same_but}
use Rattle.flow_networks.proofs.Seats.{input_inside, output_inside, state_here, inputs_here, outputs_here, input_here, output_here, states_after, openings_same, built_same, seated_same}

-- x is node k of the graph
pub record IsNode {X : Type 0} {t : Ghosts X} (graph : Graph X t) (k : ℕ) (x : Placed X t) : Type 0 where
  pub inside : k < length graph.nodes.items
  pub is : x ≡ get_or graph.nodes.items k x

pub is_node : {X : Type 0} {t : Ghosts X} (graph : Graph X t) (k : ℕ) (x : Placed X t) → k < length (states_of graph) → x ≡ get_or graph.nodes.items k x → IsNode graph k x
is_node graph k x inside is = record { inside = omega (arith, inside, length-map graph.nodes.items placed_state); is = is }

module _ {X : Type 0} {t : Ghosts X} {graph : Graph X t} {k : ℕ} {x : Placed X t} (at : IsNode graph k x) where
  pub among_states : k < length (states_of graph)
  among_states = omega (arith, at.inside, length-map graph.nodes.items placed_state)

  pub stands : placed_state x ≡ stand_at graph k
  stands = state_here graph.nodes.items k x at.inside at.is

  -- it has as many edges as ports, and those are the edges of the network
  pub input_count : length x.inputs.items ≡ inputs_at t.behaviour (states_of graph) k
  input_count = inputs_here graph.nodes.items k x at.inside at.is

  pub output_count : length x.outputs.items ≡ outputs_at t.behaviour (states_of graph) k
  output_count = outputs_here graph.nodes.items k x at.inside at.is

  pub input_is : (p : ℕ) → p < inputs_at t.behaviour (states_of graph) k → get_or x.inputs.items p 0 ≡ in_edge (edges_of graph) k p
  input_is p port = input_here graph.nodes.items k x at.inside at.is graph.edges.items graph.built.joined graph.seated p port

  pub output_is : (q : ℕ) → q < outputs_at t.behaviour (states_of graph) k → get_or x.outputs.items q 0 ≡ out_edge (edges_of graph) k q
  output_is q port = output_here graph.nodes.items k x at.inside at.is graph.edges.items graph.built.joined graph.seated q port

  -- the input port that it wants, and its edge
  module _ (laws : BehaviourLaws t.behaviour) (p : ℕ) (wants : wanted_at graph k ≡ Read p) where
    pub wanted_in : p < length x.inputs.items
    wanted_in = input_inside laws x p (ap t.behaviour.process.want (sym stands)) wants

    pub wanted_in_port : p < inputs_at t.behaviour (states_of graph) k
    wanted_in_port = omega (arith, wanted_in, input_count)

    pub wanted_in_edge : (e : ℕ) → e ≡ get_or x.inputs.items p e → e ≡ in_edge (edges_of graph) k p
    wanted_in_edge e read = read ∙ get_or_default x.inputs.items p e 0 wanted_in ∙ input_is p wanted_in_port

  -- the output port that it wants, and its edge
  module _ (laws : BehaviourLaws t.behaviour) (q : ℕ) (wants : wanted_at graph k ≡ Write q) where
    pub wanted_out : q < length x.outputs.items
    wanted_out = output_inside laws x q (ap t.behaviour.process.want (sym stands)) wants

    pub wanted_out_port : q < outputs_at t.behaviour (states_of graph) k
    wanted_out_port = omega (arith, wanted_out, output_count)

    pub wanted_out_edge : (e : ℕ) → e ≡ get_or x.outputs.items q e → e ≡ out_edge (edges_of graph) k q
    wanted_out_edge e read = read ∙ get_or_default x.outputs.items q e 0 wanted_out ∙ output_is q wanted_out_port

  -- y stands in its place later
  module _ (y : Placed X t) where
    pub later_states : (s : t.State) → placed_state y ≡ s → states_in (set graph.nodes.items k y) ≡ set (states_of graph) k s
    later_states s is = states_set placed_state graph.nodes.items k y s is

    pub later_same : placed_state y ≡ placed_state x → states_in (set graph.nodes.items k y) ≡ states_of graph
    later_same same = states_kept placed_state graph.nodes.items k x y at.inside at.is same

    pub later_state : state_at t.behaviour (states_in (set graph.nodes.items k y)) k ≡ placed_state y
    later_state =
        state_written t.behaviour (states_of graph) (states_in (set graph.nodes.items k y)) k (placed_state y) among_states
        (states_after graph.nodes.items k x at.inside at.is y)

    module _ (place : IsSamePlace x y) where
      pub later_openings : map t.behaviour.opening (states_in (set graph.nodes.items k y)) ≡ map t.behaviour.opening (states_of graph)
      later_openings = openings_same graph.nodes.items k x at.inside at.is y place

      pub later_built : BehaviourLaws t.behaviour → IsBuilt t.behaviour (states_in (set graph.nodes.items k y)) (edges_of graph)
      later_built laws = built_same graph.nodes.items k x at.inside at.is y place laws graph.edges.items graph.built

      pub later_seated : AreSeated (set graph.nodes.items k y) (edges_of graph)
      later_seated = seated_same graph.nodes.items k x at.inside at.is y place.number place.inputs place.outputs graph.edges.items graph.seated

      pub later_others : BehaviourLaws t.behaviour → SameBut t.behaviour k (states_of graph) (states_in (set graph.nodes.items k y))
      later_others laws =
          same_but t.behaviour laws (states_of graph) (states_in (set graph.nodes.items k y)) later_openings k (placed_state y)
          (states_after graph.nodes.items k x at.inside at.is y)
