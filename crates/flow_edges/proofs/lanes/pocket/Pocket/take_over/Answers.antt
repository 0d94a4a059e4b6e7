use Rattle.std.proofs.Common.{refl, sym, ◌∙◌, subst, arith}
use Rattle.flow_rings.specs.Edge.{SameWriter}
use Rattle.flow_edges.specs.lanes.Taken.{held_in}
use Rattle.flow_edges.proofs.OfLanes.Lists.{prefix-trans}
use Rattle.flow_edges.proofs.lanes.pocket.Pocket.take_over.Goals as goal

pub returns-then-not-take_some-clause-came : goal.returns-then-not-take_some-clause-came
returns-then-not-take_some-clause-came c =
    let inv = c.loop.invariant in
    let now = c.take_some.ensures.came in
    record {
      edge = now.edge ∙ inv.edge;
      back = subst (λ b. SameWriter b c.take_some.new.self.back) inv.back now.back;
      places = now.places ∙ inv.places;
      taken = now.taken ∙ inv.taken;
      more = prefix-trans (held_in c.args.self.now) (held_in c.loop.self) (held_in c.take_some.new.self) inv.more now.more;
      some = now.some;
    }

pub returns-clause-came : goal.returns-clause-came
returns-clause-came c =
    let inv = c.loop.invariant in
    record {
      edge = inv.edge;
      back = subst (λ b. SameWriter c.args.self.now.back b) (sym inv.back) (refl, refl);
      places = inv.places;
      taken = inv.taken;
      more = inv.more;
      some = inv.some (omega arith);
    }

pub loop-preserved : goal.loop-preserved
loop-preserved c =
    let inv = c.loop.invariant in
    let now = c.take_some.ensures.came in
    record {
      edge = now.edge ∙ inv.edge;
      back = c.take_some.ensures.back ∙ inv.back;
      places = now.places ∙ inv.places;
      taken = now.taken ∙ inv.taken;
      more = prefix-trans (held_in c.args.self.now) (held_in c.loop.self) (held_in c.take_some.new.self) inv.more now.more;
      some = λ later. now.some;
    }
