use Rattle.std.proofs.Common.{◌∙◌, ap}
use Rattle.flow_messages.specs.Signals.{signal_of}
use Rattle.flow_messages.proofs.Tables.{on_ok}
use Rattle.flow_networks.proofs.Reached.{on_err}
use Rattle.flow_networks.proofs.GraphNodes.{is_node, stands, later_states, later_same, later_openings, later_built, later_seated}
use Rattle.flow_networks.proofs.graph.Graph.give.Goals as goal

pub give-requires : goal.give-requires
give-requires g c =
    let at = is_node c.args.self.now c.args.node c.index_mut.result.now c.requires.inside c.index_mut.ensures.value in
    ap g.T.Transducer.behaviour.process.want (stands at) ∙ c.requires.wants

pub invariant_of-self : goal.invariant_of-self
invariant_of-self g c =
    let at = is_node c.args.self.now c.args.node c.index_mut.result.now c.requires.inside c.index_mut.ensures.value in
    let place = c.give.ensures.place in
    record { built = later_built at c.give.new.self place g.met.T.Transducer.laws; seated = later_seated at c.give.new.self place }

pub returns-clause-openings : goal.returns-clause-openings
returns-clause-openings g c =
    let at = is_node c.args.self.now c.args.node c.index_mut.result.now c.requires.inside c.index_mut.ensures.value in
    later_openings at c.give.new.self c.give.ensures.place

pub returns-clause-ok : goal.returns-clause-ok
returns-clause-ok g c =
    let at = is_node c.args.self.now c.args.node c.index_mut.result.now c.requires.inside c.index_mut.ensures.value in
    on_ok c.give.result (λ is. later_states at c.give.new.self _ (is ∙ ap (λ s. g.T.Transducer.behaviour.process.read s (signal_of c.args.message)) (stands at))) c.give.ensures.ok

pub returns-clause-err : goal.returns-clause-err
returns-clause-err g c =
    let at = is_node c.args.self.now c.args.node c.index_mut.result.now c.requires.inside c.index_mut.ensures.value in
    on_err c.give.result (λ same. later_same at c.give.new.self same) c.give.ensures.err
