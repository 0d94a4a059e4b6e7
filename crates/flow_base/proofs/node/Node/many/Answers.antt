use Rattle.std.proofs.Common.{◌≡◌, ◌+◌, refl, subst, arith}
use Rattle.std.specs.Prelude.{nat_lt}
use Rattle.flow_base.specs.Members.{node_of}
use Rattle.flow_base.specs.Visits.{WentOn}
use Rattle.flow_base.proofs.Carried.{same_ends_refl}
use Rattle.flow_base.proofs.Kernels.{went_none, went_on_alone, went_then}
use Rattle.flow_base.proofs.Visiting.{still_placed}
use Rattle.flow_base.proofs.Walks.{ends_on}
use Rattle.flow_base.proofs.node.Node.many.Goals as goal

-- it made no step
pub returns-then-chunk-lt-LEAST_FOR_BLOCKS-clause-visit : goal.returns-then-chunk-lt-LEAST_FOR_BLOCKS-clause-visit
returns-then-chunk-lt-LEAST_FOR_BLOCKS-clause-visit g c =
    let node = node_of g.W.Worker.state g.W.Worker.machine in
    let a = c.args.ends.now in
    record {
      same = g.met.E.Ends.same_refl a;
      ends = same_ends_refl (g.E.Ends.view a);
      went = (0, went_none node.behaviour c.args.edges.now.inputs.now c.args.edges.now.outputs.now (node.state c.args.self.now) (g.E.Ends.view a), refl);
      broke = tt;
    }

-- its ends are there
pub look_for_messages-requires : goal.look_for_messages-requires
look_for_messages-requires g c = c.requires.placed.reads

-- the steps of a worker that goes on from where it stands, once it has looked for messages
pub blocks-requires-clause-placed : goal.blocks-requires-clause-placed
blocks-requires-clause-placed g c =
    let node = node_of g.W.Worker.state g.W.Worker.machine in
    let b = node.behaviour in
    let ins = c.args.edges.now.inputs.now in
    let outs = c.args.edges.now.outputs.now in
    let view = g.E.Ends.view in
    let n = c.args.self.now in
    let w = c.look_for_messages.new.ends in
    let went = went_on_alone b ins outs 0 (0, went_none b ins outs (node.state n) (view c.args.ends.now), refl) (view w) (c.look_for_messages.ensures.looked outs) in
    still_placed g.W.Worker g.E.Ends g.met.W.Worker.laws n c.args.ends.now c.requires.placed n w _ c.look_for_messages.ensures.ends went

pub returns-then-chunk-edges-clause-visit : goal.returns-then-chunk-edges-clause-visit
returns-then-chunk-edges-clause-visit g c =
    let node = node_of g.W.Worker.state g.W.Worker.machine in
    let b = node.behaviour in
    let ins = c.args.edges.now.inputs.now in
    let outs = c.args.edges.now.outputs.now in
    let view = g.E.Ends.view in
    let s = node.state c.args.self.now in
    let whole = c.blocks-then-chunk-edges in
    let a = c.args.ends.now in
    let w = c.look_for_messages.new.ends in
    let z = whole.new.ends in
    let looked = c.look_for_messages.ensures in
    let first = went_on_alone b ins outs 0 (0, went_none b ins outs s (view a), refl) (view w) (looked.looked outs) in
    let k = whole.result in
    let none : 0 + k ≡ k = omega arith in
    record {
      same = g.met.E.Ends.same_trans a w z looked.same whole.ensures.visit.same;
      ends = ends_on looked.ends whole.ensures.visit.ends;
      went = subst (λ m. WentOn ins outs b s (view a) (node.state whole.new.self) (view z) (nat_lt 0 m)) none (went_then b ins outs 0 first whole.ensures.visit.went);
      broke = tt;
    }
