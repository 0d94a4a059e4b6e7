use Rattle.std.proofs.Common.{◌+◌, ◌<◌, length, refl, sym, ◌∙◌, subst, arith, rules}
use Rattle.flow_messages.specs.Cells.{cell_of}
use Rattle.flow_messages.specs.Signals.{carry}
use Rattle.flow_messages.proofs.Fitting.{kind_fits, fits_still}
use Rattle.flow_base.specs.Nodes.{NodeState, behaviour_of, node_state}
use Rattle.flow_base.specs.Visits.{edge_of, Went, Wrote}
use Rattle.flow_base.specs.declared.node.Phase.TheVariants.{Working}
use Rattle.flow_base.proofs.Carried.{same_ends_refl, same_ends_then}
use Rattle.flow_base.proofs.Kernels.{went_none, went_looked}
use Rattle.flow_scalar.specs.ForkMachine.{ForkPorts, ForkState, fork_ports, fork_state, fork_machine}
use Rattle.flow_scalar.proofs.ForkBlocks.{fork_view, gave, owing_none, owing_more}
use Rattle.flow_scalar.proofs.fork.Fork.give_on.Goals as goal

-- it made no step
pub returns-in-None-clause-went : goal.returns-in-None-clause-went
returns-in-None-clause-went g c = λ ins at. went_none (behaviour_of fork_machine) ins c.args.outputs.now (node_state (fork_view c.args.self.now) Working at) (g.E.Ends.view c.args.ends.now)

pub returns-in-None-2-clause-went : goal.returns-in-None-2-clause-went
returns-in-None-2-clause-went g c = λ ins at. went_none (behaviour_of fork_machine) ins c.args.outputs.now (node_state (fork_view c.args.self.now) Working at) (g.E.Ends.view c.args.ends.now)

pub returns-then-not-fits-clause-went : goal.returns-then-not-fits-clause-went
returns-then-not-fits-clause-went g c = λ ins at. went_none (behaviour_of fork_machine) ins c.args.outputs.now (node_state (fork_view c.args.self.now) Working at) (g.E.Ends.view c.args.ends.now)

pub loop-made-init : goal.loop-made-init
loop-made-init g c = record {
  same = g.met.E.Ends.same_refl c.args.ends.now;
  ends = same_ends_refl (g.E.Ends.view c.args.ends.now);
  kind = refl;
  outputs = refl;
  next = search rules;
  held = (c.in-Some.item, c.in-Some.is, sym c.copy_of-item.ensures);
  scalar = search rules;
  of_kind = search rules;
  went = λ ins at. went_none (behaviour_of fork_machine) ins c.args.outputs.now (node_state (fork_view c.args.self.now) Working at) (g.E.Ends.view c.args.ends.now);
}

-- there is no room at the next output
pub returns-then-space-eq0-clause-went : goal.returns-then-space-eq0-clause-went
returns-then-space-eq0-clause-went g c =
    let there : c.loop-made.self.next < length c.args.outputs.now = omega (arith, c.loop-made.invariant.next, c.loop-made.invariant.outputs, c.requires.outputs) in
    λ ins at. went_looked (behaviour_of fork_machine) ins c.args.outputs.now (c.loop-made.invariant.went ins at) c.loop-made.self.next _ there c.space.ensures.looked

pub returns-then-self-clause-went : goal.returns-then-self-clause-went
returns-then-self-clause-went g c =
    let b = behaviour_of fork_machine in
    let outs = c.args.outputs.now in
    let view = g.E.Ends.view in
    let n = c.loop-made.self in
    let inv = c.loop-made.invariant in
    let p = fork_ports n.kind n.outputs in
    let x = cell_of inv.held.0 in
    let w = view c.put_copy.new.ends in
    let wrote : Wrote (view c.space.new.self) (edge_of outs n.next) (carry x) w =
    subst (λ y. Wrote (view c.space.new.self) (edge_of outs n.next) (carry y) w) (sym inv.held.2) c.put_copy.ensures.wrote in
    λ ins at.
    let on : ForkState → NodeState (ForkPorts × ForkState) = λ s. node_state (p, s) Working at in
    let s = node_state (fork_view c.args.self.now) Working at in
    let a = view c.args.ends.now in
    let went = subst (λ o. Went ins outs b s a (on (fork_state n.outputs n.next o)) (view c.loop-made.ends) c.loop-made.made) inv.held.1 (inv.went ins at) in
    let given = gave ins outs n.kind n.outputs n.next x at (inv.outputs ∙ c.requires.outputs) inv.next went c.space.ensures.looked wrote in
    subst (λ o. Went ins outs b s a (on o) w (c.loop-made.made + 1)) (owing_none x n.outputs n.next c.if-self.true) given

pub loop-made-preserved : goal.loop-made-preserved
loop-made-preserved g c =
    let b = behaviour_of fork_machine in
    let outs = c.args.outputs.now in
    let view = g.E.Ends.view in
    let n = c.loop-made.self in
    let inv = c.loop-made.invariant in
    let p = fork_ports n.kind n.outputs in
    let x = cell_of inv.held.0 in
    let u = view c.space.new.self in
    let w = view c.put_copy.new.ends in
    let wrote : Wrote u (edge_of outs n.next) (carry x) w = subst (λ y. Wrote u (edge_of outs n.next) (carry y) w) (sym inv.held.2) c.put_copy.ensures.wrote in
    let more : n.next + 1 < n.outputs = omega (arith, inv.next, c.if-self.false) in
    let E = g.met.E.Ends in
    record {
      same = E.same_trans c.args.ends.now c.space.new.self c.put_copy.new.ends (E.same_trans c.args.ends.now c.loop-made.ends c.space.new.self inv.same c.space.ensures.same) c.put_copy.ensures.same;
      ends = same_ends_then (view c.args.ends.now) u w (same_ends_then (view c.args.ends.now) (view c.loop-made.ends) u inv.ends c.space.ensures.looked.ends) wrote.ends;
      kind = inv.kind;
      outputs = inv.outputs;
      next = more;
      held = inv.held;
      scalar = inv.scalar;
      of_kind = inv.of_kind;
      went = λ ins at.
          let on : ForkState → NodeState (ForkPorts × ForkState) = λ s. node_state (p, s) Working at in
          let s = node_state (fork_view c.args.self.now) Working at in
          let a = view c.args.ends.now in
          let came = subst (λ o. Went ins outs b s a (on (fork_state n.outputs n.next o)) (view c.loop-made.ends) c.loop-made.made) inv.held.1 (inv.went ins at) in
          let given = gave ins outs n.kind n.outputs n.next x at (inv.outputs ∙ c.requires.outputs) inv.next came c.space.ensures.looked wrote in
          let holds = subst (λ o. Went ins outs b s a (on o) w (c.loop-made.made + 1)) (owing_more x n.outputs n.next more) given in
          subst (λ o. Went ins outs b s a (on (fork_state n.outputs (n.next + 1) o)) w (c.loop-made.made + 1)) (sym inv.held.1) holds;
    }

-- the item is of the kind of the outputs
pub put_copy-requires-clause-fits : goal.put_copy-requires-clause-fits
put_copy-requires-clause-fits g c =
    let outs = c.args.outputs.now in
    let view = g.E.Ends.view in
    let a = view c.args.ends.now in
    let u = view c.space.new.self in
    let next = c.loop-made.self.next in
    let to = edge_of outs next in
    let there : next < length outs = omega (arith, c.loop-made.invariant.next, c.loop-made.invariant.outputs, c.requires.outputs) in
    let same = same_ends_then a (view c.loop-made.ends) u c.loop-made.invariant.ends c.space.ensures.looked.ends in
    fits_still a u to _ same (kind_fits (a.kind to) c.args.self.now.kind _ (c.requires.kinds next there) c.loop-made.invariant.of_kind)
