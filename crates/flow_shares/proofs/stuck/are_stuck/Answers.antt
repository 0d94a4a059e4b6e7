use Rattle.std.proofs.Common.{sym, ◌∙◌, subst}
use Rattle.flow_shares.specs.Shares.{HasItsEnds}
use Rattle.flow_shares.proofs.Looked.{stuck_none, looked_next, stuck_next}
use Rattle.flow_shares.proofs.stuck.are_stuck.Goals as goal

pub loop-placed-init : goal.loop-placed-init
loop-placed-init g c = record {
  same = g.met.E.Ends.same_refl c.args.ends.now;
  so_far = stuck_none c.args.nodes.now (g.E.Ends.view c.args.ends.now);
}

pub is_stuck-requires-clause-reads : goal.is_stuck-requires-clause-reads
is_stuck-requires-clause-reads g c =
    let x = c.placed-item.result in
    let has = subst (HasItsEnds (g.E.Ends.view c.args.ends.now)) (sym c.placed-item.is) (c.requires.there c.loop-placed.placed-index x c.loop-placed-test.true) in
    λ p d l. c.loop-placed.invariant.so_far.looked.ends.reads _ ∙ has.reads p d l

pub is_stuck-requires-clause-writes : goal.is_stuck-requires-clause-writes
is_stuck-requires-clause-writes g c =
    let x = c.placed-item.result in
    let has = subst (HasItsEnds (g.E.Ends.view c.args.ends.now)) (sym c.placed-item.is) (c.requires.there c.loop-placed.placed-index x c.loop-placed-test.true) in
    λ p d l. c.loop-placed.invariant.so_far.looked.ends.writes _ ∙ has.writes p d l

pub returns-then-not-is_stuck-clause-looked : goal.returns-then-not-is_stuck-clause-looked
returns-then-not-is_stuck-clause-looked g c =
    let view = g.E.Ends.view in
    looked_next g.met.T.Transducer.laws c.args.nodes.now c.requires.apart c.loop-placed.placed-index c.placed-item.result c.loop-placed-test.true c.placed-item.is
    (view c.args.ends.now) (view c.loop-placed.ends) (view c.is_stuck.new.ends) c.is_stuck.ensures.ends c.is_stuck.ensures.looked c.loop-placed.invariant.so_far

pub loop-placed-preserved : goal.loop-placed-preserved
loop-placed-preserved g c =
    let view = g.E.Ends.view in
    record {
      same = g.met.E.Ends.same_trans c.args.ends.now c.loop-placed.ends c.is_stuck.new.ends c.loop-placed.invariant.same c.is_stuck.ensures.same;
      so_far = stuck_next g.met.T.Transducer.laws c.args.nodes.now c.requires.apart c.loop-placed.placed-index c.placed-item.result c.loop-placed-test.true c.placed-item.is
          (view c.args.ends.now) (view c.loop-placed.ends) (view c.is_stuck.new.ends) c.is_stuck.ensures.ends c.is_stuck.ensures.looked
          c.loop-placed.invariant.so_far (c.is_stuck.ensures.stuck.0 c.if-not-is_stuck.false);
    }
