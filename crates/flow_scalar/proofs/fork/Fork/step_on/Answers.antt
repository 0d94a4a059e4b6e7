use Rattle.std.proofs.Common.{◌≡◌, ◌+◌, refl, sym, ◌∙◌, subst, arith}
use Rattle.flow_messages.specs.Kinds.{TakesKind}
use Rattle.flow_messages.proofs.Fitting.{takes_still}
use Rattle.flow_base.specs.Nodes.{behaviour_of, node_state}
use Rattle.flow_base.specs.Visits.{edge_of, Went}
use Rattle.flow_base.specs.declared.node.Phase.TheVariants.{Working}
use Rattle.flow_base.proofs.Carried.{same_ends_refl, same_ends_then}
use Rattle.flow_base.proofs.Kernels.{went_none, went_further}
use Rattle.flow_scalar.specs.ForkMachine.{fork_machine}
use Rattle.flow_scalar.proofs.ForkBlocks.{fork_view}
use Rattle.flow_scalar.proofs.fork.Fork.step_on.Goals as goal

pub loop-init : goal.loop-init
loop-init g c = record {
  same = g.met.E.Ends.same_refl c.args.ends.now;
  ends = same_ends_refl (g.E.Ends.view c.args.ends.now);
  within = omega arith;
  ports = refl;
  kind = refl;
  went = λ at. went_none (behaviour_of fork_machine) c.args.inputs.now c.args.outputs.now (node_state (fork_view c.args.self.now) Working at) (g.E.Ends.view c.args.ends.now);
}

-- none was given after what it took
pub returns-then-given-eq0-clause-went : goal.returns-then-given-eq0-clause-went
returns-then-given-eq0-clause-went g c =
    let b = behaviour_of fork_machine in
    let ins = c.args.inputs.now in
    let outs = c.args.outputs.now in
    let view = g.E.Ends.view in
    let took = c.loop.made + c.take_on-made.result in
    let all : took + c.give_on-given.result ≡ took = omega (arith, c.if-given-eq0.true) in
    λ at.
    let s = node_state (fork_view c.args.self.now) Working at in
    let t = node_state (fork_view c.give_on-given.new.self) Working at in
    let so_far = went_further b ins outs (c.loop.invariant.went at) (c.take_on-made.ensures.went at) in
    subst (Went ins outs b s (view c.args.ends.now) t (view c.give_on-given.new.ends)) all (went_further b ins outs so_far (c.give_on-given.ensures.went ins at))

pub loop-preserved : goal.loop-preserved
loop-preserved g c =
    let b = behaviour_of fork_machine in
    let ins = c.args.inputs.now in
    let outs = c.args.outputs.now in
    let view = g.E.Ends.view in
    let inv = c.loop.invariant in
    let took = c.take_on-made.ensures in
    let gave = c.give_on-given.ensures in
    let E = g.met.E.Ends in
    let a = c.args.ends.now in
    let v = c.loop.ends in
    let u = c.take_on-made.new.ends in
    let w = c.give_on-given.new.ends in
    record {
      same = E.same_trans a u w (E.same_trans a v u inv.same took.same) gave.same;
      ends = same_ends_then (view a) (view u) (view w) (same_ends_then (view a) (view v) (view u) inv.ends took.ends) gave.ends;
      within = omega (arith, inv.within, took.within, gave.within);
      ports = gave.ports ∙ took.ports ∙ inv.ports;
      kind = gave.kind ∙ took.kind ∙ inv.kind;
      went = λ at. went_further b ins outs (went_further b ins outs (inv.went at) (took.went at)) (gave.went ins at);
    }

pub give_on-given-requires-clause-kinds : goal.give_on-given-requires-clause-kinds
give_on-given-requires-clause-kinds g c = λ q lt.
    let view = g.E.Ends.view in
    let a = view c.args.ends.now in
    let u = view c.take_on-made.new.ends in
    let to = edge_of c.args.outputs.now q in
    let took = c.take_on-made.ensures in
    let same = same_ends_then a (view c.loop.ends) u c.loop.invariant.ends took.ends in
    subst (TakesKind (u.kind to)) (sym (took.kind ∙ c.loop.invariant.kind)) (takes_still a u to c.args.self.now.kind same (c.requires.kinds q lt))
