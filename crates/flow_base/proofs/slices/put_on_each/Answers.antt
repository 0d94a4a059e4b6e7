use Rattle.std.proofs.Common.{◌≡◌, ℕ, List, true, sym, ◌∙◌, subst, arith}
use Rattle.std.proofs.lemmas.List.Elements.{All-get_or}
use Rattle.flow_messages.specs.Ends.{PutAll}
use Rattle.flow_messages.specs.Kinds.{TakesKind}
use Rattle.flow_messages.specs.Signals.{Signal}
use Rattle.flow_messages.proofs.Fitting.{takes_still}
use Rattle.flow_base.specs.Along.{written_signals}
use Rattle.flow_base.specs.Visits.{edge_of}
use Rattle.flow_base.proofs.OverSlices.{put_on_none, put_on_more, written_free}
use Rattle.flow_base.proofs.slices.put_on_each.Goals as goal

pub loop-port-init : goal.loop-port-init
loop-port-init g c = record {
  same = g.met.E.Ends.same_refl c.args.ends.now;
  put = put_on_none c.args.outputs.now (λ q. written_signals c.args.block.now c.args.moved (g.W.Worker.machine.kind_out (g.W.Worker.state c.args.worker.now).0 q)) (g.E.Ends.view c.args.ends.now);
}

pub put_on-requires-clause-writes : goal.put_on-requires-clause-writes
put_on-requires-clause-writes g c =
    let a = g.E.Ends.view c.args.ends.now in
    c.loop-port.invariant.put.ends.writes _ ∙ All-get_or (λ e. a.writes e ≡ true) c.args.outputs.now c.loop-port.port 0 c.loop-port-test.true c.requires.writes

pub put_on-requires-clause-kind : goal.put_on-requires-clause-kind
put_on-requires-clause-kind g c =
    let view = g.E.Ends.view in
    let port = c.loop-port.port in
    let to = edge_of c.args.outputs.now port in
    let kind = g.W.Worker.machine.kind_out (g.W.Worker.state c.args.worker.now).0 port in
    subst (TakesKind ((view c.loop-port.ends).kind to)) (sym c.kind_out.ensures)
    (takes_still (view c.args.ends.now) (view c.loop-port.ends) to kind c.loop-port.invariant.put.ends
    (c.requires.kinds port c.loop-port-test.true))

pub put_on-requires-clause-room : goal.put_on-requires-clause-room
put_on-requires-clause-room g c =
    let port = c.loop-port.port in
    let there = c.loop-port-test.true in
    let (units, flags, ints) = c.requires.room port there in
    let kept = c.loop-port.invariant.put.room_next port (omega arith) there in
    (omega (arith, units, kept), omega (arith, flags, kept), omega (arith, ints, kept))

pub loop-port-preserved : goal.loop-port-preserved
loop-port-preserved g c =
    let view = g.E.Ends.view in
    let block = c.args.block.now in
    let made = c.args.moved in
    let kind_out = g.W.Worker.machine.kind_out (g.W.Worker.state c.args.worker.now).0 in
    let ms : ℕ → List Signal = λ q. written_signals block made (kind_out q) in
    let w = view c.put_on.new.ends in
    let v = view c.loop-port.ends in
    let port = c.loop-port.port in
    let put = subst (λ k. PutAll v (edge_of c.args.outputs.now port) (written_signals block made k) w) c.kind_out.ensures c.put_on.ensures.put in
    record {
      same = g.met.E.Ends.same_trans c.args.ends.now c.loop-port.ends c.put_on.new.ends c.loop-port.invariant.same c.put_on.ensures.same;
      put = put_on_more c.args.outputs.now ms c.requires.apart (λ q. written_free block made (kind_out q)) port c.loop-port-test.true (view c.args.ends.now) v w c.loop-port.invariant.put put;
    }
