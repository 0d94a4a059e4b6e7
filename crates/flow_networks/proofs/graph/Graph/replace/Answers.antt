use Rattle.std.proofs.Common.{◌≡◌, set, sym, ◌∙◌, ap, subst}
use Rattle.flow_networks.specs.Graphs.{states_of, edges_of}
use Rattle.flow_networks.specs.Networks.{AreOpened}
use Rattle.flow_networks.specs.Places.{placed_state, states_in}
use Rattle.flow_networks.specs.Kept.{IsBuilt}
use Rattle.flow_networks.proofs.GraphNodes.{is_node, input_count, output_count}
use Rattle.flow_networks.proofs.Reached.{states_set}
use Rattle.flow_networks.proofs.Replacements.{built_replaced, opened_replaced}
use Rattle.flow_networks.proofs.Seats.{seated_same}
use Rattle.flow_networks.proofs.graph.Graph.replace.Goals as goal

pub replace-requires-clause-inputs : goal.replace-requires-clause-inputs
replace-requires-clause-inputs g c =
    let at = is_node c.args.self.now c.args.number c.index_mut.result.now c.requires.node c.index_mut.ensures.value in
    c.requires.inputs ∙ sym (input_count at) ∙ c.index_mut.result.now.each_input

pub replace-requires-clause-outputs : goal.replace-requires-clause-outputs
replace-requires-clause-outputs g c =
    let at = is_node c.args.self.now c.args.number c.index_mut.result.now c.requires.node c.index_mut.ensures.value in
    c.requires.outputs ∙ sym (output_count at) ∙ c.index_mut.result.now.each_output

pub invariant_of-self : goal.invariant_of-self
invariant_of-self g c =
    let b = g.T.Transducer.behaviour in
    let graph = c.args.self.now in
    let nodes = graph.nodes.items in
    let k = c.args.number in
    let s = g.T.Transducer.state c.args.node in
    let x = c.index_mut.result.now in
    let y = c.replace.new.self in
    let at = is_node c.args.self.now c.args.number c.index_mut.result.now c.requires.node c.index_mut.ensures.value in
    let is : states_in (set nodes k y) ≡ set (states_of graph) k s = states_set placed_state nodes k y s (ap g.T.Transducer.state c.replace.ensures.node) in
    record {
      built = subst (λ l. IsBuilt b l (edges_of graph)) (sym is) (built_replaced b (states_of graph) k s c.requires (edges_of graph) graph.built);
      seated = seated_same nodes k x at.inside at.is y c.replace.ensures.number c.replace.ensures.inputs c.replace.ensures.outputs (edges_of graph) graph.seated;
    }

pub returns-clause-nodes : goal.returns-clause-nodes
returns-clause-nodes g c = states_set placed_state c.args.self.now.nodes.items c.args.number c.replace.new.self _ (ap g.T.Transducer.state c.replace.ensures.node)

pub returns-clause-opened : goal.returns-clause-opened
returns-clause-opened g c all =
    let b = g.T.Transducer.behaviour in
    let graph = c.args.self.now in
    let k = c.args.number in
    let s = g.T.Transducer.state c.args.node in
    let is : states_in (set graph.nodes.items k c.replace.new.self) ≡ set (states_of graph) k s =
    states_set placed_state graph.nodes.items k c.replace.new.self s (ap g.T.Transducer.state c.replace.ensures.node) in
    subst (AreOpened b) (sym is) (opened_replaced b (states_of graph) k s c.requires all)
