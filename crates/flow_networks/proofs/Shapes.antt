-- Graphs that were left in shape, one step after another.
use Rattle.std.proofs.Common.{◌≡◌, map, refl, ◌∙◌}
use Rattle.flow_messages.specs.Ends.{View, SameEnds}
use Rattle.flow_base.specs.Transducers.{BehaviourLaws}
use Rattle.flow_base.specs.declared.transducer.Transducer.{Ghosts}
use Rattle.flow_networks.specs.declared.graph.Graph.{Graph}
use Rattle.flow_networks.specs.Graphs.{states_of, edges_of}
use Rattle.flow_networks.specs.Shapes.{KeepsShape}
use Rattle.flow_networks.proofs.Looks.{same_ends_then}
use Rattle.flow_networks.proofs.Reached.{same_length, same_network}

module _ {X Y : Type 0} {t : Ghosts X} (Same : Y → Y → Type 0) (view : Y → View) where
  -- the nodes were left alone
  pub shape_alone : (graph : Graph X t) (ends ends' : Y) → Same ends ends' → SameEnds (view ends) (view ends') → KeepsShape Same view graph ends graph ends'
  shape_alone graph ends ends' same there = record { same = same; ends = there; network = record { nodes = refl; same_edges = refl; network = refl } }

  -- nothing happened
  pub shape_refl : ((x : Y) → Same x x) → (graph : Graph X t) (ends : Y) → KeepsShape Same view graph ends graph ends
  shape_refl refls graph ends = shape_alone graph ends ends (refls ends) (record { kinds = λ k. refl; writes = λ k. refl; reads = λ k. refl })

  -- the nodes opened alike
  pub shape_opened : BehaviourLaws t.behaviour → (graph : Graph X t) (ends : Y) (graph' : Graph X t) (ends' : Y) → Same ends ends' → SameEnds (view ends) (view ends')
      → map t.behaviour.opening (states_of graph') ≡ map t.behaviour.opening (states_of graph) → edges_of graph' ≡ edges_of graph → KeepsShape Same view graph ends graph' ends'
  shape_opened laws graph ends graph' ends' same there opened edges = record {
    same = same;
    ends = there;
    network = record {
      nodes = same_length t.behaviour laws (states_of graph) (states_of graph') opened;
      same_edges = edges;
      network = same_network t.behaviour laws (states_of graph) (states_of graph') opened (edges_of graph) (edges_of graph') edges;
    };
  }

  pub shape_then : ((x y z : Y) → Same x y → Same y z → Same x z) → (g : Graph X t) (e : Y) (g' : Graph X t) (e' : Y) (g'' : Graph X t) (e'' : Y) →
      KeepsShape Same view g e g' e' → KeepsShape Same view g' e' g'' e'' → KeepsShape Same view g e g'' e''
  shape_then trans g e g' e' g'' e'' one two = record {
    same = trans e e' e'' one.same two.same;
    ends = same_ends_then (view e) (view e') (view e'') one.ends two.ends;
    network = record {
      nodes = two.network.nodes ∙ one.network.nodes;
      same_edges = two.network.same_edges ∙ one.network.same_edges;
      network = two.network.network ∙ one.network.network;
    };
  }
