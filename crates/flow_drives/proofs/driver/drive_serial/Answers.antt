use Rattle.std.proofs.Common.{length, ap, subst, sym, ◌∙◌}
use Rattle.flow_messages.specs.Tables.{ends_of, capacity_of}
use Rattle.flow_networks.specs.Graphs.{states_of, edges_of}
use Rattle.flow_networks.specs.Visits.{HasAllEnds}
use Rattle.flow_networks.proofs.EdgeKinds.{kinds_fresh, kinds_take}
use Rattle.flow_networks.proofs.Nets.{graph_wired}
use Rattle.flow_drives.specs.Drives.{EndsMaximalRun}
use Rattle.flow_drives.specs.Edges.{traffic_in}
use Rattle.flow_networks.proofs.Passes.{reached_first}
use Rattle.flow_networks.proofs.VisitedGraphs.{all_ends_still, fresh_all_ends}
use Rattle.flow_drives.proofs.Rests.{run_sound, run_rests}
use Rattle.flow_drives.proofs.driver.drive_serial.Goals as goal

pub run_serial-requires-clause-ends : goal.run_serial-requires-clause-ends
run_serial-requires-clause-ends g c =
    let graph = c.args.graph in
    let table = c.in_ok-ends.ends in
    let are = c.deref.ensures.value ∙ c.in_ok-kinds.ensures in
    fresh_all_ends (length (edges_of graph)) (ends_of table) (kinds_fresh graph (ends_of table) are c.in_ok-ends.ensures.fresh)

pub run_serial-requires-clause-kinds : goal.run_serial-requires-clause-kinds
run_serial-requires-clause-kinds g c =
    kinds_take c.args.graph (ends_of c.in_ok-ends.ends) (c.deref.ensures.value ∙ c.in_ok-kinds.ensures) c.in_ok-ends.ensures.kinds

pub run_serial-requires-clause-reached : goal.run_serial-requires-clause-reached
run_serial-requires-clause-reached g c =
    let graph = c.args.graph in
    let table = c.in_ok-ends.ends in
    let are = c.deref.ensures.value ∙ c.in_ok-kinds.ensures in
    reached_first g.T.Transducer.behaviour table.capacity (states_of graph) (edges_of graph) (ends_of table) c.requires.opened
    (kinds_fresh graph (ends_of table) are c.in_ok-ends.ensures.fresh)

pub invariant_of-gathered : goal.invariant_of-gathered
invariant_of-gathered g c =
    let b = g.T.Transducer.behaviour in
    let graph = c.args.graph in
    let table = c.in_ok-ends.ends in
    let states = states_of graph in
    let edges = edges_of graph in
    let states' = states_of c.run_serial.new.graph in
    let edges' = edges_of c.run_serial.new.graph in
    let ends' = c.run_serial.new.ends in
    let view = ends_of ends' in
    let shape = c.run_serial.ensures.shape in
    let are = c.deref.ensures.value ∙ c.in_ok-kinds.ensures in
    let all = fresh_all_ends (length edges) (ends_of table) (kinds_fresh graph (ends_of table) are c.in_ok-ends.ensures.fresh) in
    let run : EndsMaximalRun b (capacity_of ends') states edges states' view = subst (λ n. EndsMaximalRun b n states edges states' view) (sym shape.same) c.in_ok-run_serial.ensures.run in
    record {
      there = record {
        whole = λ t is. subst (λ all_ends. HasAllEnds (length edges') (traffic_in edges' all_ends)) is
            (all_ends_still (length edges) (length edges') (ends_of table) view (ap length shape.network.same_edges) shape.ends all);
        shared = λ boxes is. absurd (cc is);
      };
      sound = run_sound b (capacity_of ends') states edges states' edges' view shape.network run (graph_wired graph);
      rest = run_rests b (capacity_of ends') states edges states' edges' view shape.network run;
    }

pub returns-clause-run : goal.returns-clause-run
returns-clause-run g c =
    let b = g.T.Transducer.behaviour in
    subst (λ n. EndsMaximalRun b n (states_of c.args.graph) (edges_of c.args.graph) (states_of c.run_serial.new.graph)
    (ends_of c.run_serial.new.ends)) c.in_ok-ends.ensures.capacity c.in_ok-run_serial.ensures.run
