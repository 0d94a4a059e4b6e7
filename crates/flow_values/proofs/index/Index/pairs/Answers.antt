use Rattle.std.proofs.Common.{◌≡◌, ◌+◌, subst, arith}
use Rattle.flow_messages.proofs.Fitting.{takes_still}
use Rattle.flow_base.specs.Nodes.{behaviour_of, node_state}
use Rattle.flow_base.specs.Visits.{edge_of, Went}
use Rattle.flow_base.specs.declared.node.Phase.TheVariants.{Working}
use Rattle.flow_base.proofs.Carried.{same_ends_refl, same_ends_then}
use Rattle.flow_base.proofs.Kernels.{went_none, went_further}
use Rattle.flow_values.specs.IndexMachine.{index_machine}
use Rattle.flow_values.proofs.IndexPairs.{index_view}
use Rattle.flow_values.proofs.index.Index.pairs.Goals as goal

pub loop-made-init : goal.loop-made-init
loop-made-init g c =
    let a = g.E.Ends.view c.args.ends.now in
    record {
      same = g.met.E.Ends.same_refl c.args.ends.now;
      ends = same_ends_refl a;
      within = omega arith;
      went = λ at. went_none (behaviour_of index_machine) c.args.inputs.now c.args.outputs.now (node_state (index_view c.args.self.now) Working at) a;
    }

pub pair_on-steps-requires-clause-kinds : goal.pair_on-steps-requires-clause-kinds
pair_on-steps-requires-clause-kinds g c = λ q lt.
    let view = g.E.Ends.view in
    takes_still (view c.args.ends.now) (view c.loop-made.ends) (edge_of c.args.outputs.now q) _ c.loop-made.invariant.ends (c.requires.kinds q lt)

-- nothing went on
pub returns-then-steps-eq0-clause-went : goal.returns-then-steps-eq0-clause-went
returns-then-steps-eq0-clause-went g c = λ at.
    let b = behaviour_of index_machine in
    let ins = c.args.inputs.now in
    let outs = c.args.outputs.now in
    let view = g.E.Ends.view in
    let s = node_state (index_view c.args.self.now) Working at in
    let all : c.loop-made.made + c.pair_on-steps.result ≡ c.loop-made.made = omega (arith, c.if-steps-eq0.true) in
    subst (Went ins outs b s (view c.args.ends.now) s (view c.pair_on-steps.new.ends)) all (went_further b ins outs (c.loop-made.invariant.went at) (c.pair_on-steps.ensures.went at))

-- one instance more
pub loop-made-preserved : goal.loop-made-preserved
loop-made-preserved g c =
    let view = g.E.Ends.view in
    let inv = c.loop-made.invariant in
    let z = c.pair_on-steps.new.ends in
    let made = c.pair_on-steps.ensures in
    record {
      same = g.met.E.Ends.same_trans c.args.ends.now c.loop-made.ends z inv.same made.same;
      ends = same_ends_then (view c.args.ends.now) (view c.loop-made.ends) (view z) inv.ends made.ends;
      within = omega (arith, inv.within, made.within);
      went = λ at. went_further (behaviour_of index_machine) c.args.inputs.now c.args.outputs.now (inv.went at) (made.went at);
    }
