use Rattle.std.proofs.Common.{◌≡◌, length, refl, ◌∙◌, ap, subst, arith}
use Rattle.flow_messages.specs.Tables.{ends_of}
use Rattle.flow_networks.specs.Graphs.{edges_of, states_of}
use Rattle.flow_networks.proofs.EdgeKinds.{kinds_fresh, kinds_take, edges_take_still}
use Rattle.flow_networks.proofs.Passes.{reached_first}
use Rattle.flow_networks.proofs.VisitedGraphs.{fresh_all_ends, all_ends_still}
use Rattle.flow_dealing.specs.Counts.{AreCounts}
use Rattle.flow_dealing.proofs.Runs.{counted, same_at_first, same_run}
use Rattle.flow_dealing.proofs.trial.run_trial.Goals as goal
use Rattle.flow_dealing.proofs.trial.run_trial.Goals.{else-loop-test, then-loop-test+in_ok-moved+then-not-moved}

pub loop-init : goal.loop-init
loop-init g c =
    let graph = c.args.graph.now in
    let table = c.in_ok-ends.ends in
    let are = c.deref.ensures.value ∙ c.in_ok-kinds.ensures in
    let fresh = kinds_fresh graph (ends_of table) are c.in_ok-ends.ensures.fresh in
    record {
      network = same_at_first g.T.Transducer.behaviour (states_of graph) (edges_of graph);
      capacity = c.in_ok-ends.ensures.capacity;
      there = fresh_all_ends (length (edges_of graph)) (ends_of table) fresh;
      kinds = kinds_take graph (ends_of table) are c.in_ok-ends.ensures.kinds;
      reached = reached_first g.T.Transducer.behaviour c.args.capacity (states_of graph) (edges_of graph) (ends_of table) c.requires.opened fresh;
    }

pub loop-preserved : goal.loop-preserved
loop-preserved g c =
    let b = g.T.Transducer.behaviour in
    let graph = c.args.graph.now in
    let now = c.loop in
    let new = c.pass.new in
    let inv = now.invariant in
    let shape = c.pass.ensures.shape in
    let count = length (edges_of graph) in
    record {
      network = record {
        nodes = shape.network.nodes ∙ inv.network.nodes;
        same_edges = shape.network.same_edges ∙ inv.network.same_edges;
        network = shape.network.network ∙ inv.network.network;
      };
      capacity = shape.same ∙ inv.capacity;
      there = all_ends_still count count (ends_of now.ends) (ends_of new.ends) refl shape.ends inv.there;
      kinds = edges_take_still g.met.T.Transducer.laws shape inv.kinds;
      reached = same_run b c.args.capacity (states_of graph) (edges_of graph) now.ends.capacity (states_of now.graph) (edges_of now.graph) (states_of new.graph)
          (ends_of new.ends) inv.network inv.capacity c.in_ok-moved.ensures.run;
    }

pub returns-clause-counts : goal.returns-clause-counts
returns-clause-counts g c =
    let b = g.T.Transducer.behaviour in
    let graph = c.args.graph.now in
    let now = c.loop-test in
    let inv = c.loop.invariant in
    let n = c.loop-edge.edge in
    let counts = c.loop-edge.counts.items in
    let all : n ≡ length (edges_of now.graph) = omega (arith, c.loop-edge-test.false, c.loop-edge.auto.edge-end, c.edges-edge-end.ensures) in
    elim now.branch [
      | else-loop-test w ↦ counted b c.args.capacity (states_of graph) (edges_of graph) n (edges_of c.loop.graph) (states_of c.loop.graph) (ends_of c.loop.ends) counts
          (all ∙ ap (λ of. length (edges_of of)) w.graph-is) inv.network.same_edges inv.reached
          (subst (λ t. AreCounts n (ends_of t) counts) w.ends-is c.loop-edge.invariant)
      | then-loop-test+in_ok-moved+then-not-moved w ↦
          let later = w.pass.new.graph in
          let shape = w.pass.ensures.shape in
          counted b c.args.capacity (states_of graph) (edges_of graph) n (edges_of later) (states_of later) (ends_of w.pass.new.ends) counts
          (all ∙ ap (λ of. length (edges_of of)) w.graph-is) (shape.network.same_edges ∙ inv.network.same_edges)
          (same_run b c.args.capacity (states_of graph) (edges_of graph) c.loop.ends.capacity (states_of c.loop.graph) (edges_of c.loop.graph) (states_of later) (ends_of w.pass.new.ends)
          inv.network inv.capacity w.in_ok-moved.ensures.run)
          (subst (λ t. AreCounts n (ends_of t) counts) w.ends-is c.loop-edge.invariant)
    ]
