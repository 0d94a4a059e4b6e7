use Rattle.std.proofs.Common.{refl}
use Rattle.flow_networks.proofs.GraphNodes.{is_node, later_openings, later_built, later_seated}
use Rattle.flow_networks.proofs.NodeEnds.{ends_reads, ends_writes}
use Rattle.flow_networks.proofs.Shapes.{shape_opened}
use Rattle.flow_networks.proofs.BlockNodes.{node_apart, node_takes, node_moves}
use Rattle.flow_networks.proofs.graph.Graph.move_block.Goals as goal

pub move_block-requires-clause-reads : goal.move_block-requires-clause-reads
move_block-requires-clause-reads g c =
    let at = is_node c.args.self.now c.args.node c.index_mut.result.now c.requires.inside c.index_mut.ensures.value in
    ends_reads at (g.E.Ends.view c.args.ends.now) c.requires.ends

pub move_block-requires-clause-writes : goal.move_block-requires-clause-writes
move_block-requires-clause-writes g c =
    let at = is_node c.args.self.now c.args.node c.index_mut.result.now c.requires.inside c.index_mut.ensures.value in
    ends_writes at (g.E.Ends.view c.args.ends.now) c.requires.ends

pub move_block-requires-clause-kinds : goal.move_block-requires-clause-kinds
move_block-requires-clause-kinds g c =
    let at = is_node c.args.self.now c.args.node c.index_mut.result.now c.requires.inside c.index_mut.ensures.value in
    node_takes at (g.E.Ends.view c.args.ends.now) c.requires.kinds

pub move_block-requires-clause-apart : goal.move_block-requires-clause-apart
move_block-requires-clause-apart g c = node_apart (is_node c.args.self.now c.args.node c.index_mut.result.now c.requires.inside c.index_mut.ensures.value)

pub invariant_of-self : goal.invariant_of-self
invariant_of-self g c =
    let at = is_node c.args.self.now c.args.node c.index_mut.result.now c.requires.inside c.index_mut.ensures.value in
    let place = c.move_block.ensures.place in
    record { built = later_built at c.move_block.new.self place g.met.T.Transducer.laws; seated = later_seated at c.move_block.new.self place }

pub returns-clause-shape : goal.returns-clause-shape
returns-clause-shape g c =
    let at = is_node c.args.self.now c.args.node c.index_mut.result.now c.requires.inside c.index_mut.ensures.value in
    shape_opened g.E.Ends.same g.E.Ends.view g.met.T.Transducer.laws c.args.self.now c.args.ends.now _ c.move_block.new.ends c.move_block.ensures.same c.move_block.ensures.ends
    (later_openings at c.move_block.new.self c.move_block.ensures.place) refl

pub returns-clause-moves : goal.returns-clause-moves
returns-clause-moves g c =
    let at = is_node c.args.self.now c.args.node c.index_mut.result.now c.requires.inside c.index_mut.ensures.value in
    let view = g.E.Ends.view in
    node_moves at g.met.T.Transducer.laws c.move_block.new.self c.move_block.ensures.place (view c.args.ends.now) (view c.move_block.new.ends)
    c.move_block.result c.move_block.ensures.went
