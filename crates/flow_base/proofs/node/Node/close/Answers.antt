use Rattle.std.proofs.Common.{◌||◌, refl, ◌∙◌, ap, subst}
use Rattle.std.proofs.Math.Bool.{or-false}
use Rattle.std.proofs.lemmas.Bool.{or_right}
use Rattle.flow_base.specs.Members.{node_of}
use Rattle.flow_base.specs.NodeLaws.{behaviour_laws}
use Rattle.flow_base.proofs.Visits.{Made, made_none, made_visit}
use Rattle.flow_base.proofs.Walks.{then_broke, then_visited}
use Rattle.flow_base.proofs.node.Node.close.Goals as goal

pub loop-init : goal.loop-init
loop-init g c =
    let node = node_of g.W.Worker.state g.W.Worker.machine in
    record {
      same = g.met.E.Ends.same_refl c.args.ends.now;
      made = made_none (behaviour_laws _ g.met.W.Worker.laws) c.requires.placed;
      first = λ h. refl;
    }

pub returns-in_err-step : goal.returns-in_err-step
returns-in_err-step g c =
    let inv = c.loop.invariant in
    then_broke g.E.Ends g.met.E.Ends.same_trans (behaviour_laws _ g.met.W.Worker.laws) c.args.ends.now c.loop.ends c.step.new.ends c.requires.placed inv.same inv.made
    c.step.ensures.same c.step.ensures.ends c.from_residual.result c.from_residual.ensures.0 c.in_err-step.ensures.broke

pub loop-preserved : goal.loop-preserved
loop-preserved g c =
    let node = node_of g.W.Worker.state g.W.Worker.machine in
    let view = g.E.Ends.view in
    record {
      same = g.met.E.Ends.same_trans c.args.ends.now c.loop.ends c.step.new.ends c.loop.invariant.same c.step.ensures.same;
      made = subst (Made node.behaviour c.args.edges.now.inputs.now c.args.edges.now.outputs.now (node.state c.args.self.now) (view c.args.ends.now)
          (node.state c.step.new.self) (view c.step.new.ends))
          (or_right c.loop.moved c.in_ok-step.field-0 c.if-not-branch.false)
          (made_visit (behaviour_laws _ g.met.W.Worker.laws) c.requires.placed c.loop.invariant.made c.step.ensures.ends c.in_ok-step.ensures.visited);
      first = λ h. cc;
    }

pub returns-then-not-branch : goal.returns-then-not-branch
returns-then-not-branch g c =
    let inv = c.loop.invariant in
    then_visited g.E.Ends g.met.E.Ends.same_trans (behaviour_laws _ g.met.W.Worker.laws) c.args.ends.now c.loop.ends c.step.new.ends c.requires.placed inv.same inv.made
    c.step.ensures.same c.step.ensures.ends c.loop.moved (ap (λ any. c.loop.moved || any) c.if-not-branch.true ∙ or-false c.loop.moved) c.in_ok-step.ensures.visited
