use Rattle.std.proofs.Common.{sym, ◌∙◌, ap, subst}
use Rattle.flow_base.specs.Transducers.{IsWrite}
use Rattle.flow_messages.proofs.Tables.{on_ok}
use Rattle.flow_networks.proofs.Reached.{on_err, if_ok_if}
use Rattle.flow_networks.proofs.GraphNodes.{is_node, stands, later_states, later_same, later_openings, later_built, later_seated}
use Rattle.flow_networks.proofs.graph.Graph.emit.Goals as goal

pub emit-requires : goal.emit-requires
emit-requires g c =
    let at = is_node c.args.self.now c.args.node c.index_mut.result.now c.requires.inside c.index_mut.ensures.value in
    subst (λ s. IsWrite (g.T.Transducer.behaviour.process.want s)) (sym (stands at)) c.requires.wants

pub invariant_of-self : goal.invariant_of-self
invariant_of-self g c =
    let at = is_node c.args.self.now c.args.node c.index_mut.result.now c.requires.inside c.index_mut.ensures.value in
    let place = c.emit.ensures.place in
    record { built = later_built at c.emit.new.self place g.met.T.Transducer.laws; seated = later_seated at c.emit.new.self place }

pub returns-clause-openings : goal.returns-clause-openings
returns-clause-openings g c =
    let at = is_node c.args.self.now c.args.node c.index_mut.result.now c.requires.inside c.index_mut.ensures.value in
    later_openings at c.emit.new.self c.emit.ensures.place

pub returns-clause-message : goal.returns-clause-message
returns-clause-message g c =
    let at = is_node c.args.self.now c.args.node c.index_mut.result.now c.requires.inside c.index_mut.ensures.value in
    if_ok_if _ _ c.emit.result (λ m is. is ∙ ap g.T.Transducer.behaviour.process.written (stands at)) c.emit.ensures.message

pub returns-clause-ok : goal.returns-clause-ok
returns-clause-ok g c =
    let at = is_node c.args.self.now c.args.node c.index_mut.result.now c.requires.inside c.index_mut.ensures.value in
    on_ok c.emit.result (λ is. later_states at c.emit.new.self _ (is ∙ ap g.T.Transducer.behaviour.process.wrote (stands at))) c.emit.ensures.ok

pub returns-clause-err : goal.returns-clause-err
returns-clause-err g c =
    let at = is_node c.args.self.now c.args.node c.index_mut.result.now c.requires.inside c.index_mut.ensures.value in
    on_err c.emit.result (λ same. later_same at c.emit.new.self same) c.emit.ensures.err
