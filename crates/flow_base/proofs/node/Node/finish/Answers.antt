use Rattle.std.proofs.Common.{◌≡◌, ◌||◌, nat_lt, arith, ◌∙◌, ap, subst}
use Rattle.std.proofs.Math.Bool.{or-false}
use Rattle.std.proofs.lemmas.Bool.{or_right}
use Rattle.flow_base.specs.Members.{node_of}
use Rattle.flow_base.specs.NodeLaws.{behaviour_laws}
use Rattle.flow_base.proofs.Visits.{Made, made_none, made_visit, broke_on, no_ok, on_err}
use Rattle.flow_base.proofs.Visiting.{stepped, tried}
use Rattle.flow_base.proofs.Walks.{ends_on}
use Rattle.flow_base.proofs.node.Node.finish.Goals as goal

pub loop-made-init : goal.loop-made-init
loop-made-init g c = record {
  same = g.met.E.Ends.same_refl c.args.ends.now;
  made = made_none (behaviour_laws _ g.met.W.Worker.laws) c.requires.placed;
}

pub returns-then-is_between-clause-visit : goal.returns-then-is_between-clause-visit
returns-then-is_between-clause-visit g c =
    let inv = c.loop-made.invariant in
    tried g.W.Worker g.E.Ends c.args.edges.now c.args.self.now c.args.ends.now c.loop-made.self c.loop-made.ends c.loop-made.made inv.same inv.made

pub returns-clause-visit : goal.returns-clause-visit
returns-clause-visit g c =
    let node = node_of g.W.Worker.state g.W.Worker.machine in
    let view = g.E.Ends.view in
    let inv = c.loop-made.invariant in
    let all : c.loop-made.made ≡ c.args.chunk = omega arith in
    tried g.W.Worker g.E.Ends c.args.edges.now c.args.self.now c.args.ends.now c.loop-made.self c.loop-made.ends c.args.chunk inv.same
    (subst (λ k. Made node.behaviour c.args.edges.now.inputs.now c.args.edges.now.outputs.now (node.state c.args.self.now) (view c.args.ends.now)
    (node.state c.loop-made.self) (view c.loop-made.ends) (nat_lt 0 k)) all inv.made)

pub returns-in_err-step-clause-visit : goal.returns-in_err-step-clause-visit
returns-in_err-step-clause-visit g c =
    let inv = c.loop-made.invariant in
    record {
      same = g.met.E.Ends.same_trans c.args.ends.now c.loop-made.ends c.step.new.ends inv.same c.step.ensures.same;
      ends = ends_on inv.made.ends c.step.ensures.ends;
      went = no_ok _ c.from_residual.result c.from_residual.ensures.0;
      broke = on_err c.from_residual.result (broke_on (behaviour_laws _ g.met.W.Worker.laws) c.requires.placed inv.made c.in_err-step.ensures.broke);
    }

pub loop-made-preserved : goal.loop-made-preserved
loop-made-preserved g c =
    let node = node_of g.W.Worker.state g.W.Worker.machine in
    let view = g.E.Ends.view in
    record {
      same = g.met.E.Ends.same_trans c.args.ends.now c.loop-made.ends c.step.new.ends c.loop-made.invariant.same c.step.ensures.same;
      made = subst (Made node.behaviour c.args.edges.now.inputs.now c.args.edges.now.outputs.now (node.state c.args.self.now) (view c.args.ends.now)
          (node.state c.step.new.self) (view c.step.new.ends))
          (or_right (nat_lt 0 c.loop-made.made) c.in_ok-step.field-0 c.if-not-branch.false ∙ stepped c.loop-made.made)
          (made_visit (behaviour_laws _ g.met.W.Worker.laws) c.requires.placed c.loop-made.invariant.made c.step.ensures.ends c.in_ok-step.ensures.visited);
    }

pub returns-then-not-branch-clause-visit : goal.returns-then-not-branch-clause-visit
returns-then-not-branch-clause-visit g c =
    let node = node_of g.W.Worker.state g.W.Worker.machine in
    let view = g.E.Ends.view in
    let inv = c.loop-made.invariant in
    tried g.W.Worker g.E.Ends c.args.edges.now c.args.self.now c.args.ends.now c.step.new.self c.step.new.ends c.loop-made.made
    (g.met.E.Ends.same_trans c.args.ends.now c.loop-made.ends c.step.new.ends inv.same c.step.ensures.same)
    (subst (Made node.behaviour c.args.edges.now.inputs.now c.args.edges.now.outputs.now (node.state c.args.self.now) (view c.args.ends.now) (node.state c.step.new.self) (view c.step.new.ends))
    (ap (λ any. nat_lt 0 c.loop-made.made || any) c.if-not-branch.true ∙ or-false (nat_lt 0 c.loop-made.made))
    (made_visit (behaviour_laws _ g.met.W.Worker.laws) c.requires.placed inv.made c.step.ensures.ends c.in_ok-step.ensures.visited))
