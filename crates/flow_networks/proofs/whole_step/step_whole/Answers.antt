use Rattle.std.proofs.Common.{subst}
use Rattle.flow_messages.specs.Whole.{IsWhole}
use Rattle.flow_networks.proofs.Turns.{turns_network}
use Rattle.flow_networks.proofs.whole_step.step_whole.Goals as goal

pub step_once-requires-clause-kinds : goal.step_once-requires-clause-kinds
step_once-requires-clause-kinds g c = c.requires.kinds

pub returns-clause-network : goal.returns-clause-network
returns-clause-network g c =
    let ends = c.args.ends.now in
    let ends' = c.step_once.new.ends in
    let capacity = g.E.WholeEnds.capacity ends in
    let step = c.step_once.ensures in
    let whole' : IsWhole capacity (g.E.Ends.view ends') = subst (λ n. IsWhole n (g.E.Ends.view ends')) (g.met.E.WholeEnds.same_capacity ends ends' step.shape.same) (g.met.E.WholeEnds.whole ends') in
    turns_network g.met.T.Transducer.laws g.E.Ends.view c.args.node c.args.graph.now ends c.step_once.new.graph ends' c.requires.inside
    c.requires.ends capacity (g.met.E.WholeEnds.whole ends) whole' c.step_once.result step.turn

pub returns-clause-turn : goal.returns-clause-turn
returns-clause-turn g c = c.step_once.ensures.turn
