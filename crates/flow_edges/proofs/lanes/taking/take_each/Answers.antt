use Rattle.std.proofs.Common.{◌≡◌, refl, sym, ◌∙◌, subst, arith, append-nil}
use Rattle.flow_rings.specs.Edge.{received, certain_held}
use Rattle.flow_edges.specs.lanes.Followed.{TakesInTurn}
use Rattle.flow_edges.proofs.OfLanes.Lists.{prefix-refl}
use Rattle.flow_edges.proofs.OfLanes.Drained.{drained}
use Rattle.flow_edges.proofs.lanes.taking.take_each.Goals as goal

pub loop-init : goal.loop-init
loop-init c = record { same = (refl, refl); taken = sym (append-nil _); ahead = prefix-refl _ }

pub loop-preserved : goal.loop-preserved
loop-preserved c =
    let inv = c.loop.invariant in
    let now = c.take.ensures.same in
    let old = c.args.reader.now in
    let more = drained (received old) (received c.loop.reader) (received c.take.new.self) (certain_held old) (certain_held c.loop.reader)
    (certain_held c.take.new.self) c.loop.counter c.take.result (omega (arith, c.loop-test.true, c.requires)) inv.taken inv.ahead
    c.take.ensures.some c.take.ensures.succeeds in
    record { same = (now.0 ∙ inv.same.0, now.1 ∙ inv.same.1); taken = more.0; ahead = more.1 }

pub returns : goal.returns
returns c =
    let all : c.loop.counter ≡ c.args.count = omega arith in
    subst (λ n. TakesInTurn n c.args.reader.now c.loop.reader) all c.loop.invariant
