use Rattle.std.proofs.Common.{length, ap, ◌∙◌}
use Rattle.flow_messages.specs.Tables.{ends_of}
use Rattle.flow_networks.specs.Graphs.{states_of, edges_of}
use Rattle.flow_networks.proofs.EdgeKinds.{kinds_fresh, kinds_take, edges_take_still}
use Rattle.flow_networks.proofs.Passes.{reached_first}
use Rattle.flow_networks.proofs.VisitedGraphs.{fresh_all_ends, all_ends_still}
use Rattle.flow_networks.proofs.schedule.settle.Goals as goal

pub step_named-requires-clause-ends : goal.step_named-requires-clause-ends
step_named-requires-clause-ends g c =
    let graph = c.args.graph in
    let table = c.in_ok-ends.ends in
    let are = c.deref.ensures.value ∙ c.in_ok-kinds.ensures in
    fresh_all_ends (length (edges_of graph)) (ends_of table) (kinds_fresh graph (ends_of table) are c.in_ok-ends.ensures.fresh)

pub step_named-requires-clause-kinds : goal.step_named-requires-clause-kinds
step_named-requires-clause-kinds g c =
    kinds_take c.args.graph (ends_of c.in_ok-ends.ends) (c.deref.ensures.value ∙ c.in_ok-kinds.ensures) c.in_ok-ends.ensures.kinds

pub step_named-requires-clause-reached : goal.step_named-requires-clause-reached
step_named-requires-clause-reached g c =
    let graph = c.args.graph in
    let table = c.in_ok-ends.ends in
    let are = c.deref.ensures.value ∙ c.in_ok-kinds.ensures in
    reached_first g.T.Transducer.behaviour table.capacity (states_of graph) (edges_of graph) (ends_of table) c.requires.opened
    (kinds_fresh graph (ends_of table) are c.in_ok-ends.ensures.fresh)

pub run_serial-requires-clause-ends : goal.run_serial-requires-clause-ends
run_serial-requires-clause-ends g c =
    let graph = c.args.graph in
    let table = c.in_ok-ends.ends in
    let later = c.step_named.new.graph in
    let shape = c.step_named.ensures.shape in
    let are = c.deref.ensures.value ∙ c.in_ok-kinds.ensures in
    all_ends_still (length (edges_of graph)) (length (edges_of later)) (ends_of table) (ends_of c.step_named.new.ends) (ap length shape.network.same_edges)
    shape.ends (fresh_all_ends (length (edges_of graph)) (ends_of table) (kinds_fresh graph (ends_of table) are c.in_ok-ends.ensures.fresh))

pub run_serial-requires-clause-kinds : goal.run_serial-requires-clause-kinds
run_serial-requires-clause-kinds g c =
    let first = kinds_take c.args.graph (ends_of c.in_ok-ends.ends) (c.deref.ensures.value ∙ c.in_ok-kinds.ensures) c.in_ok-ends.ensures.kinds in
    edges_take_still g.met.T.Transducer.laws c.step_named.ensures.shape first

pub invariant_of-result : goal.invariant_of-result
invariant_of-result g c =
    let graph = c.args.graph in
    let table = c.in_ok-ends.ends in
    let later = c.step_named.new.graph in
    let last = c.run_serial.new.graph in
    let first = c.step_named.ensures.shape in
    let shape = c.run_serial.ensures.shape in
    let are = c.deref.ensures.value ∙ c.in_ok-kinds.ensures in
    let all = fresh_all_ends (length (edges_of graph)) (ends_of table) (kinds_fresh graph (ends_of table) are c.in_ok-ends.ensures.fresh) in
    record {
      there = all_ends_still (length (edges_of later)) (length (edges_of last)) (ends_of c.step_named.new.ends) (ends_of c.run_serial.new.ends)
          (ap length shape.network.same_edges) shape.ends
          (all_ends_still (length (edges_of graph)) (length (edges_of later)) (ends_of table) (ends_of c.step_named.new.ends)
          (ap length first.network.same_edges) first.ends all);
    }
