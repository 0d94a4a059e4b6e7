-- How a graph at rest came out.
use Rattle.std.proofs.Common.{◌≡◌, ℕ, List, Some, subst}
use Rattle.flow_graph.specs.Configurations.{IsSound}
use Rattle.flow_graph.specs.Ends.{View}
use Rattle.flow_graph.specs.Networks.{network_of, configuration_of}
use Rattle.flow_graph.specs.Outcome.{Outcome}
use Rattle.flow_graph.specs.Outcomes.{HasOutcome}
use Rattle.flow_graph.specs.Runs.{AtRest}
use Rattle.flow_graph.specs.Shapes.{IsSameNetwork}
use Rattle.flow_graph.specs.Transducers.{Behaviour}
use Rattle.flow_graph.specs.Edge.{Edge}
use Rattle.flow_drive.specs.Drives.{IsSoundAt, RestsAt, ComesOut}
use Rattle.callers.specs.Drive.{CameOutAs}

-- a graph at rest is where the network of the graph that it was came out
pub came_out : {S : Type 0} (b : Behaviour S) (states : List S) (edges : List Edge) (states' : List S) (edges' : List Edge) (view : View) (most capacity : ℕ) (outcome : Outcome)
    → IsSameNetwork b states edges states' edges' → most ≡ capacity
    → IsSoundAt b states' edges' view → RestsAt b states' edges' most view → ComesOut b states' edges' most view outcome → CameOutAs b states edges capacity outcome
came_out b states edges states' edges' view most capacity outcome same is sound rests out =
    let end = configuration_of b states' view in
    record {
      end = end;
      sound = subst (λ net. ∥ IsSound b.process net end ∥₁) same.network sound;
      rest = subst (λ net. AtRest b.process net (Some capacity) end) same.network (subst (λ n. AtRest b.process (network_of b states' edges') (Some n) end) is rests);
      comes_out = subst (λ net. HasOutcome b.process net capacity end outcome) same.network (subst (λ n. HasOutcome b.process (network_of b states' edges') n end outcome) is out);
    }
