use Rattle.flow_graph.specs.Graphs.{states_of, edges_of}
use Rattle.flow_drive.specs.StreamNodes.{node_behaviour}
use Rattle.flow_drive.specs.Resteds.{rested_states, rested_edges, rested_capacity, traffic_of}
use Rattle.callers.proofs.Resting.{came_out}
use Rattle.callers.proofs.drive.outcome_on_two_threads.Goals as goal

pub returns-clause-outcome : goal.returns-clause-outcome
returns-clause-outcome g c =
    let rested = c.in_ok-rested.rested in
    came_out node_behaviour (states_of c.args.graph) (edges_of c.args.graph) (rested_states rested) (rested_edges rested) (traffic_of rested) (rested_capacity rested) 256 c.outcome.result
    c.in_ok-rested.ensures.network c.in_ok-rested.ensures.capacity c.rested_is_sound.ensures.sound c.rested_is_sound.ensures.rest c.outcome.ensures
