use Rattle.std.proofs.Common.{[], ◌∷◌, refl, ap, ◌∙◌, arith}
use Rattle.flow_rings.specs.Edge.{received}
use Rattle.flow_edges.specs.lanes.Credits.{credit}
use Rattle.flow_edges.proofs.OfLanes.Lists.{credit-append}
use Rattle.flow_edges.proofs.lanes.counting.told.Goals as goal

pub loop-init : goal.loop-init
loop-init c = record { same = (refl, refl); count = omega arith }

pub returns-in-None-clause-same : goal.returns-in-None-clause-same
returns-in-None-clause-same c =
    let was = c.loop.invariant.same in
    let now = c.in-None.ensures.same in
    (now.0 ∙ was.0, now.1 ∙ was.1)

pub returns-in-None-clause-count : goal.returns-in-None-clause-count
returns-in-None-clause-count c = omega (arith, c.loop.invariant.count, ap credit c.in-None.ensures.none.0)

pub loop-preserved : goal.loop-preserved
loop-preserved c =
    let was = c.loop.invariant.same in
    let now = c.in-Some.ensures.same in
    let m = c.in-Some.message in
    record {
      same = (now.0 ∙ was.0, now.1 ∙ was.1);
      count = omega (arith, c.loop.invariant.count, c.saturating_add-count.ensures, c.number_of.ensures, ap credit c.in-Some.ensures.some.0, credit-append (received c.loop.back) (m ∷ []));
    }

pub returns-clause-same : goal.returns-clause-same
returns-clause-same c = c.loop.invariant.same

pub returns-clause-count : goal.returns-clause-count
returns-clause-count c = c.loop.invariant.count
