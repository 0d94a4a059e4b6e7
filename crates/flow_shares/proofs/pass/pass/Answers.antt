use Rattle.std.proofs.Common.{◌+◌, ◌<◌, ◌||◌, length, set, sym, ◌∙◌, ap, subst, arith}
use Rattle.flow_messages.specs.Kinds.{TakesKind}
use Rattle.flow_base.specs.Visits.{edge_of}
use Rattle.flow_networks.specs.Places.{placed_state}
use Rattle.flow_shares.specs.Shares.{outputs_of, HasItsEnds}
use Rattle.flow_base.proofs.Visits.{on_err}
use Rattle.flow_shares.proofs.Passes.{passed_none, passed_out, passed_by, passed_end, node_there, passed_next, passed_lost, passed_starves}
use Rattle.flow_shares.proofs.pass.pass.Goals.{then-running+in_ok-moved, else-running+else-not-is_over}
use Rattle.flow_shares.proofs.pass.pass.Goals as goal

pub loop-k-init : goal.loop-k-init
loop-k-init g c = record {
  same = g.met.E.Ends.same_refl c.args.ends.now;
  passed = passed_none c.args.nodes.now.items (g.E.Ends.view c.args.ends.now);
}

pub run-requires-clause-reads : goal.run-requires-clause-reads
run-requires-clause-reads g c =
    (node_there g.met.T.Transducer.laws c.loop-k.invariant.passed c.requires.there c.requires.apart c.requires.own
    c.index_mut.result.now (omega arith) c.index_mut.ensures.value).reads

pub run-requires-clause-writes : goal.run-requires-clause-writes
run-requires-clause-writes g c =
    (node_there g.met.T.Transducer.laws c.loop-k.invariant.passed c.requires.there c.requires.apart c.requires.own
    c.index_mut.result.now (omega arith) c.index_mut.ensures.value).writes

pub run-requires-clause-kinds : goal.run-requires-clause-kinds
run-requires-clause-kinds g c q l =
    let x = c.index_mut.result.now in
    let has : HasItsEnds (g.E.Ends.view c.loop-k.ends) x = node_there g.met.T.Transducer.laws c.loop-k.invariant.passed c.requires.there c.requires.apart c.requires.own
    x (omega arith) c.index_mut.ensures.value in
    subst (TakesKind ((g.E.Ends.view c.loop-k.ends).kind (edge_of (outputs_of x) q))) (g.met.T.Transducer.laws.same_kinds_out (placed_state x) q) (has.kinds q l)

pub returns-in_err-moved-clause-lost : goal.returns-in_err-moved-clause-lost
returns-in_err-moved-clause-lost g c =
    on_err c.from_residual.result
    (passed_lost g.met.T.Transducer.laws c.loop-k.invariant.passed c.requires.there c.requires.apart c.requires.own
    c.index_mut.result.now (omega arith) c.index_mut.ensures.value c.run.ensures.place c.run.ensures.ends c.in_err-moved.ensures.broke)

pub returns-in_err-moved-clause-starves : goal.returns-in_err-moved-clause-starves
returns-in_err-moved-clause-starves g c =
    on_err c.from_residual.result
    (passed_starves g.met.T.Transducer.laws c.loop-k.invariant.passed c.requires.there c.requires.apart c.requires.own
    c.index_mut.result.now (omega arith) c.index_mut.ensures.value c.run.ensures.place c.run.ensures.ends c.in_err-moved.ensures.broke)

pub loop-k-preserved : goal.loop-k-preserved
loop-k-preserved g c =
    let nodes = c.args.nodes.now.items in
    let mid = c.loop-k.nodes.items in
    let view = g.E.Ends.view in
    let passed = c.loop-k.invariant.passed in
    let inside : c.loop-k.k < length mid = omega arith in
    elim c.if-running.branch [
      | then-running+in_ok-moved w ↦ record {
        same = subst (λ z. g.E.Ends.same c.args.ends.now z) (sym w.ends-is) (g.met.E.Ends.same_trans c.args.ends.now c.loop-k.ends w.run.new.ends c.loop-k.invariant.same w.run.ensures.same);
        passed =
            passed_out (c.loop-k.k + 1) nodes (set mid c.loop-k.k w.run.new.self) c.if-running.nodes.items (view c.args.ends.now)
            (view w.run.new.ends) (view c.if-running.ends) (c.loop-k.moved || w.in_ok-moved.field-0) c.if-running.moved
            (λ i. (w.nodes-is i).items) (ap view w.ends-is) w.moved-is
            (passed_next g.met.T.Transducer.laws passed c.requires.there c.requires.apart c.requires.own w.index_mut.result.now inside
            w.index_mut.ensures.value w.run.ensures.place w.run.ensures.ends w.in_ok-moved.ensures.visited);
      }
      | else-running+else-not-is_over w ↦ record {
        same = subst (λ z. g.E.Ends.same c.args.ends.now z) (sym w.ends-is) c.loop-k.invariant.same;
        passed =
            passed_out (c.loop-k.k + 1) nodes mid c.if-running.nodes.items (view c.args.ends.now) (view c.loop-k.ends) (view c.if-running.ends) c.loop-k.moved c.if-running.moved
            (λ i. (w.nodes-is i).items) (ap view w.ends-is) w.moved-is
            (passed_by passed w.index.result.now inside w.index.ensures (sym w.is_over.ensures ∙ w.if-not-is_over.false));
      }
    ]

pub returns-clause-stuck : goal.returns-clause-stuck
returns-clause-stuck g c still = (passed_end c.loop-k.invariant.passed (omega (arith, c.loop-k.invariant.passed.places.count)) still).0

pub returns-clause-rest : goal.returns-clause-rest
returns-clause-rest g c still = (passed_end c.loop-k.invariant.passed (omega (arith, c.loop-k.invariant.passed.places.count)) still).1
