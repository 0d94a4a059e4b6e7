use Rattle.std.proofs.Common.{◌≤◌, subst, sym, inl, inr, arith}
use Rattle.std.proofs.lemmas.Bool.{cases_eq}
use Rattle.flow_base.specs.Visits.{edge_of}
use Rattle.flow_base.proofs.Carried.{same_ends_refl, same_ends_then, looked_room}
use Rattle.flow_base.proofs.Kernels.{alone_still, alone_room}
use Rattle.flow_base.proofs.Visits.{left_alone}
use Rattle.flow_base.proofs.slices.least_space.Goals as goal

pub loop-port-init : goal.loop-port-init
loop-port-init g c =
    let a = g.E.Ends.view c.args.ends.now in
    record {
      same = g.met.E.Ends.same_refl c.args.ends.now;
      ends = same_ends_refl a;
      room = λ q lt. absurd (omega (arith, lt));
      alone = λ ins. alone_still ins c.args.outputs.now a;
    }

pub loop-port-preserved : goal.loop-port-preserved
loop-port-preserved g c =
    let outs = c.args.outputs.now in
    let view = g.E.Ends.view in
    let a = view c.args.ends.now in
    let v = view c.loop-port.ends in
    let w = view c.space.new.self in
    let port = c.loop-port.port in
    let inv = c.loop-port.invariant in
    let looked = c.space.ensures.looked in
    let least = c.min-least.result in
    record {
      same = g.met.E.Ends.same_trans c.args.ends.now c.loop-port.ends c.space.new.self inv.same c.space.ensures.same;
      ends = same_ends_then a v w inv.ends looked.ends;
      room = λ q lt. elim (cases_eq q port) [
        | inl at ↦ subst (λ k. least ≤ w.room (edge_of outs k)) (sym at) (omega (arith, c.space.ensures.value, c.min-least.ensures))
        | inr ne ↦ omega (arith, inv.room q (omega (arith, lt, ne)), looked_room v w (edge_of outs port) (edge_of outs q) looked, c.min-least.ensures)
      ];
      alone = λ ins. left_alone ins outs a v w (inv.alone ins) (alone_room ins outs v w port c.loop-port-test.true looked);
    }
