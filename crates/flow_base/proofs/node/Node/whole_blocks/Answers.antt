use Rattle.flow_base.specs.Members.{node_of}
use Rattle.flow_base.proofs.Kernels.{went_on_alone, went_then}
use Rattle.flow_base.proofs.Visiting.{still_placed}
use Rattle.flow_base.proofs.Visits.{no_ok, on_err}
use Rattle.flow_base.proofs.Walks.{ends_on}
use Rattle.flow_base.proofs.node.Node.whole_blocks.Goals as goal

-- its ends are still there where an instance may begin
pub look_for_messages-requires : goal.look_for_messages-requires
look_for_messages-requires g c =
    (still_placed g.W.Worker g.E.Ends g.met.W.Worker.laws c.args.self.now c.args.ends.now c.requires.placed c.finish.new.self c.finish.new.ends _
    c.finish.ensures.visit.ends c.in_ok-first.ensures.visit.went).reads

-- where it has looked for messages
pub blocks-whole-requires-clause-placed : goal.blocks-whole-requires-clause-placed
blocks-whole-requires-clause-placed g c =
    let node = node_of g.W.Worker.state g.W.Worker.machine in
    let w = g.E.Ends.view c.look_for_messages.new.ends in
    let ends = ends_on c.finish.ensures.visit.ends c.look_for_messages.ensures.ends in
    let outs = c.args.edges.now.outputs.now in
    let went = went_on_alone node.behaviour c.args.edges.now.inputs.now outs c.in_ok-first.first c.in_ok-first.ensures.visit.went w (c.look_for_messages.ensures.looked outs) in
    still_placed g.W.Worker g.E.Ends g.met.W.Worker.laws c.args.self.now c.args.ends.now c.requires.placed c.finish.new.self c.look_for_messages.new.ends _ ends went

-- the steps to where an instance may begin, and those over slices
pub returns-in-Working-clause-visit : goal.returns-in-Working-clause-visit
returns-in-Working-clause-visit g c =
    let b = (node_of g.W.Worker.state g.W.Worker.machine).behaviour in
    let ins = c.args.edges.now.inputs.now in
    let outs = c.args.edges.now.outputs.now in
    let trans = g.met.E.Ends.same_trans in
    let a = c.args.ends.now in
    let v = c.finish.new.ends in
    let w = c.look_for_messages.new.ends in
    let z = c.blocks-whole.new.ends in
    let looked = c.look_for_messages.ensures in
    let whole = c.blocks-whole.ensures.visit in
    let first = went_on_alone b ins outs c.in_ok-first.first c.in_ok-first.ensures.visit.went (g.E.Ends.view w) (looked.looked outs) in
    record {
      same = trans a w z (trans a v w c.finish.ensures.visit.same looked.same) whole.same;
      ends = ends_on (ends_on c.finish.ensures.visit.ends looked.ends) whole.ends;
      went = went_then b ins outs c.in_ok-first.first first whole.went;
      broke = tt;
    }

pub returns-in_err-first-clause-visit : goal.returns-in_err-first-clause-visit
returns-in_err-first-clause-visit g c = record {
  same = c.finish.ensures.visit.same;
  ends = c.finish.ensures.visit.ends;
  went = no_ok _ c.from_residual.result c.from_residual.ensures.0;
  broke = on_err c.from_residual.result c.in_err-first.ensures.visit.broke;
}
