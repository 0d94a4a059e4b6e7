use Rattle.std.proofs.Common.{◌≡◌, suc, length, sym, ◌∙◌, arith}
use Rattle.snesl_data.specs.Types.{ty_of}
use Rattle.flow_base.specs.Nodes.{behaviour_of, node_state}
use Rattle.flow_base.specs.declared.node.Phase.TheVariants.{Working}
use Rattle.flow_base.proofs.Kernels.{went_none}
use Rattle.flow_values.specs.IndexMachine.{index_machine, index_state}
use Rattle.flow_values.specs.laws.Dues.{has_edge}
use Rattle.flow_values.proofs.IndexPairs.{index_view, begins_idle}
use Rattle.flow_values.proofs.index.IndexWorker.blocks.Goals as goal

-- within an instance it made no step
pub returns-in_default-clause-went : goal.returns-in_default-clause-went
returns-in_default-clause-went g c =
    λ at. went_none (behaviour_of index_machine) c.args.inputs.now c.args.outputs.now (node_state (index_view c.args.self.now) Working at)
    (g.E.Ends.view c.args.ends.now)

pub pairs-requires-clause-between : goal.pairs-requires-clause-between
pairs-requires-clause-between g c =
    let n = c.args.self.now in
    begins_idle (ty_of n.element) (index_state n.held n.dues.items) (sym c.in-Begin.ensures)

-- a type has an edge
pub pairs-requires-clause-some : goal.pairs-requires-clause-some
pairs-requires-clause-some g c =
    let edge = has_edge (ty_of c.args.self.now.element) in
    let all : length c.args.outputs.now ≡ suc edge.0 = c.requires.wired.each_output ∙ edge.1 in
    omega (arith, all)
