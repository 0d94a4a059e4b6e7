use Rattle.std.proofs.Common.{◌<◌, length, Some, refl, sym, subst, arith}
use Rattle.flow_messages.specs.Cells.{cell_of}
use Rattle.flow_base.specs.Nodes.{behaviour_of, node_state}
use Rattle.flow_base.specs.Visits.{Went}
use Rattle.flow_base.specs.declared.node.Phase.TheVariants.{Working}
use Rattle.flow_base.proofs.Kernels.{went_none}
use Rattle.flow_segment.specs.DistMachine.{at_flag, dist_machine, dist_view}
use Rattle.flow_segment.proofs.DistBlocks.{empty_at, held_at, item_went}
use Rattle.flow_segment.proofs.dist.Dist.hold_next.Goals as goal

-- nothing is shown
pub returns-in_default-clause-went : goal.returns-in_default-clause-went
returns-in_default-clause-went g c = λ at.
    let b = behaviour_of dist_machine in
    let ins = c.args.inputs.now in
    let outs = c.args.outputs.now in
    let a = g.E.Ends.view c.args.ends.now in
    let s = node_state (dist_view c.args.self.now) Working at in
    subst (λ v. Went ins outs b s a s v 0) (sym c.in_default.ensures.none) (went_none b ins outs s a)

-- it read an item
pub returns-clause-went : goal.returns-clause-went
returns-clause-went g c = λ at.
    let b = behaviour_of dist_machine in
    let ins = c.args.inputs.now in
    let outs = c.args.outputs.now in
    let n = c.args.self.now in
    let item = c.in-Some.item in
    let a = g.E.Ends.view c.args.ends.now in
    let w = g.E.Ends.view c.take_shown.new.ends in
    let there : 0 < length ins = omega (arith, c.requires.wired.each_input) in
    let one = item_went ins outs n.kind at there (cell_of item) c.in-Some.ensures.kind a w c.in-Some.ensures.taken in
    let from = subst (λ q. Went ins outs b (node_state (n.kind, q) Working at) a (node_state (n.kind, at_flag (cell_of item)) Working at) w 1) (sym (empty_at n.held n.copies c.requires.empty)) one in
    subst (λ q. Went ins outs b (node_state (dist_view n) Working at) a (node_state (n.kind, q) Working at) w 1) (sym (held_at (Some item) n.copies item refl c.requires.idle)) from
