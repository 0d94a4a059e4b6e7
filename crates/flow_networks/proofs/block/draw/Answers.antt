use Rattle.std.proofs.Common.{rules, ◌≡◌, true, length, refl, ap, arith}
use Rattle.flow_messages.specs.Flats.{is_scalar}
use Rattle.flow_base.specs.Transducers.{IsWrite}
use Rattle.flow_networks.proofs.Drawn.{drew_none, draws_scalar, drew_next}
use Rattle.flow_networks.proofs.block.draw.Goals as goal

pub loop-init : goal.loop-init
loop-init g c = record {
  drew = drew_none g.T.Transducer.behaviour g.met.T.Transducer.laws (g.T.Transducer.state c.args.node.now) (g.T.Transducer.state c.args.node.now) c.new-block.result.items c.new-block.ensures refl;
  few = omega (arith, ap length c.new-block.ensures);
}

pub unreachable-requires : goal.unreachable-requires
unreachable-requires g c =
    let b = g.T.Transducer.behaviour in
    let laws = g.met.T.Transducer.laws in
    let state = g.T.Transducer.state in
    let t = state c.loop.node in
    let xs = c.loop.block.items in
    let writing : IsWrite (b.process.want t) = search rules in
    let scalar : is_scalar (b.process.written t) ≡ true = draws_scalar b laws (state c.args.node.now) c.requires.reached c.requires.one t xs c.loop.invariant.drew c.requires.scalar writing in
    let told = c.in-Ok.ensures.ok.0 in
    let none = c.in_default-of.ensures.none in
    cc

pub loop-preserved : goal.loop-preserved
loop-preserved g c =
    let b = g.T.Transducer.behaviour in
    let laws = g.met.T.Transducer.laws in
    let state = g.T.Transducer.state in
    let s = state c.args.node.now in
    let t = state c.loop.node in
    let u = state c.emit.new.self in
    let xs = c.loop.block.items in
    let ys = c.push.new.self.items in
    let inv = c.loop.invariant in
    let writing : IsWrite (b.process.want t) = search rules in
    record {
      drew = drew_next b laws s c.requires.reached c.requires.one t xs inv.drew writing c.in-Ok.message u c.in-Some.flat ys c.in-Ok.ensures.ok.0
          c.in-Ok.ensures.ok.1 c.in-Some.ensures.some c.push.ensures.items;
      few = omega (arith, c.push.ensures.len, inv.few);
    }
