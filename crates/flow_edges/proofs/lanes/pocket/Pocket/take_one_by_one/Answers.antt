use Rattle.std.proofs.Common.{◌≡◌, refl, sym, ◌∙◌, subst, arith, append-nil}
use Rattle.flow_edges.specs.lanes.Taken.{taken_from, held_in, TookFirst}
use Rattle.flow_edges.proofs.OfLanes.Lists.{prefix-refl}
use Rattle.flow_edges.proofs.OfLanes.Drained.{drained}
use Rattle.flow_edges.proofs.lanes.pocket.Pocket.take_one_by_one.Goals as goal

pub loop-init : goal.loop-init
loop-init c = record { edge = refl; back = (refl, refl); places = refl; taken = sym (append-nil _); ahead = prefix-refl _ }

pub loop-preserved : goal.loop-preserved
loop-preserved c =
    let inv = c.loop.invariant in
    let now = c.take.ensures in
    let old = c.args.self.now in
    let more = drained (taken_from old) (taken_from c.loop.self) (taken_from c.take.new.self) (held_in old) (held_in c.loop.self)
    (held_in c.take.new.self) c.loop.counter c.take.result (omega (arith, c.loop-test.true, c.requires)) inv.taken inv.ahead now.some now.succeeds
    in
    record {
      edge = now.same.0 ∙ inv.edge;
      back = (now.same.1.0 ∙ inv.back.0, now.same.1.1 ∙ inv.back.1);
      places = now.same.2 ∙ inv.places;
      taken = more.0;
      ahead = more.1;
    }

pub returns : goal.returns
returns c =
    let all : c.loop.counter ≡ c.args.count = omega arith in
    subst (λ n. TookFirst n c.args.self.now c.loop.self) all c.loop.invariant
