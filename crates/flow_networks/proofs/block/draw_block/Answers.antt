use Rattle.std.proofs.Common.{rules, ◌≡◌, ◌<◌, length, refl, sym, subst}
use Rattle.flow_messages.specs.Flats.{flat_signals}
use Rattle.flow_base.specs.Visits.{Went}
use Rattle.flow_networks.proofs.BlockEdges.{only_looked}
use Rattle.flow_networks.proofs.Drawn.{drew_nothing, may_take, went_drawn}
use Rattle.flow_networks.proofs.block.draw_block.Goals as goal

pub returns-then-matches-clause-went : goal.returns-then-matches-clause-went
returns-then-matches-clause-went g c =
    let view = g.E.Ends.view in
    let s = g.T.Transducer.state c.args.node.now in
    only_looked g.T.Transducer.behaviour g.met.T.Transducer.laws c.args.inputs.now c.args.outputs.now c.requires.apart s s (view c.args.ends.now)
    (view c.least_space-room.new.ends) refl (c.least_space-room.ensures.looked c.args.inputs.now)

pub returns-then-is_empty-clause-went : goal.returns-then-is_empty-clause-went
returns-then-is_empty-clause-went g c =
    let view = g.E.Ends.view in
    let b = g.T.Transducer.behaviour in
    let laws = g.met.T.Transducer.laws in
    let s = g.T.Transducer.state c.args.node.now in
    let t = g.T.Transducer.state c.draw-block.new.node in
    let none : length c.draw-block.result.items ≡ 0 = search rules in
    only_looked b laws c.args.inputs.now c.args.outputs.now c.requires.apart s t (view c.args.ends.now) (view c.least_space-room.new.ends)
    (drew_nothing b laws s t c.draw-block.result.items c.draw-block.ensures.drew none) (c.least_space-room.ensures.looked c.args.inputs.now)

pub put_each-requires-clause-may : goal.put_each-requires-clause-may
put_each-requires-clause-may g c =
    let view = g.E.Ends.view in
    may_take g.T.Transducer.behaviour g.met.T.Transducer.laws (g.T.Transducer.state c.args.node.now) c.args.inputs.now c.args.outputs.now
    (view c.args.ends.now) (view c.least_space-room.new.ends) c.draw-block.result.items c.least_space-room.result
    c.requires.placed c.least_space-room.ensures.ends c.draw-block.ensures.drew c.least_space-room.ensures.room c.draw-block.ensures.most

pub returns-clause-went : goal.returns-clause-went
returns-clause-went g c =
    let view = g.E.Ends.view in
    let b = g.T.Transducer.behaviour in
    let laws = g.met.T.Transducer.laws in
    let s = g.T.Transducer.state c.args.node.now in
    let t = g.T.Transducer.state c.draw-block.new.node in
    let ins = c.args.inputs.now in
    let outs = c.args.outputs.now in
    let a = view c.args.ends.now in
    let w = view c.least_space-room.new.ends in
    let v = view c.put_each.new.ends in
    let xs = c.draw-block.result.items in
    let some : 0 < length xs = search rules in
    subst (λ n. Went ins outs b s a t v n) (sym c.len.ensures.value)
    (went_drawn b laws ins outs c.requires.apart s a c.requires.placed w v t (flat_signals xs) (length xs) (c.least_space-room.ensures.looked ins)
    c.draw-block.ensures.drew c.put_each.ensures.put some)
