use Rattle.std.proofs.Common.{sym, subst}
use Rattle.flow_base.specs.Members.{node_of}
use Rattle.flow_base.specs.Nodes.{node_state}
use Rattle.flow_base.specs.Visits.{Went}
use Rattle.flow_base.proofs.Kernels.{wired}
use Rattle.flow_base.proofs.Visiting.{still_there}
use Rattle.flow_base.proofs.Walks.{walk_then}
use Rattle.flow_base.proofs.node.Node.blocks.Goals as goal

pub blocks-whole-requires : goal.blocks-whole-requires
blocks-whole-requires g c =
    let node = node_of g.W.Worker.state g.W.Worker.machine in
    let along = c.over_slices-along in
    let placed = still_there g.W.Worker g.E.Ends g.met.W.Worker.laws c.args.self.now c.args.ends.now c.requires.placed along.new.self along.new.ends along.result along.ensures.visit in
    record { wired = wired node.behaviour c.args.edges.now.inputs.now c.args.edges.now.outputs.now (node.state along.new.self) (g.E.Ends.view along.new.ends) placed; kinds = placed.kinds }

pub returns-clause-visit : goal.returns-clause-visit
returns-clause-visit g c =
    let state = g.W.Worker.state in
    let b = (node_of state g.W.Worker.machine).behaviour in
    let ins = c.args.edges.now.inputs.now in
    let outs = c.args.edges.now.outputs.now in
    let view = g.E.Ends.view in
    let along = c.over_slices-along in
    let whole = c.blocks-whole in
    let n = along.new.self in
    walk_then g.met.E.Ends.same_trans along.ensures.visit (record {
      same = whole.ensures.same;
      ends = whole.ensures.ends;
      went = subst (λ p. Went ins outs b (node_state (state n.worker) p n.at) (view along.new.ends) (node_state (state whole.new.self) p n.at) (view whole.new.ends) whole.result)
          (sym along.ensures.works) (whole.ensures.went n.at);
    })
