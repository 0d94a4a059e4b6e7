use Rattle.std.proofs.Common.{◌≡◌, ◌<◌, true, length, arith}
use Rattle.flow_networks.specs.Networks.{state_at}
use Rattle.flow_networks.specs.Graphs.{states_of}
use Rattle.flow_networks.specs.Over.{is_over}
use Rattle.flow_networks.proofs.Dropped.{below_left, left_or_over}
use Rattle.flow_networks.proofs.serial.drop_over.Goals as goal

pub returns-clause-below : goal.returns-clause-below
returns-clause-below g c = below_left (λ k. k < length (states_of c.args.graph.now)) c.loop-i.nodes.items c.truncate.new.self.items c.loop-i.kept c.truncate.ensures.items c.loop-i.invariant.below

pub returns-clause-others : goal.returns-clause-others
returns-clause-others g c =
    let b = g.T.Transducer.behaviour in
    let all = c.loop-i-test.false in
    left_or_over (λ k. is_over (b.process.want (state_at b (states_of c.args.graph.now) k)) ≡ true) c.args.nodes.now.items c.loop-i.nodes.items
    c.truncate.new.self.items c.loop-i.kept c.truncate.ensures.items
    (omega (arith, c.loop-i.invariant.few, c.loop-i.invariant.count, c.loop-i.auto.i-end, c.len-i-end.ensures))
    (λ j d inside. c.loop-i.invariant.seen j d (omega (arith, inside, all, c.len-i-end.ensures)))
