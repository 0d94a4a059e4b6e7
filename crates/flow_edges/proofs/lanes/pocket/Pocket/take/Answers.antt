use Rattle.std.proofs.Common.{sym, ap, ◌∙◌, subst}
use Rattle.std.specs.Prelude.{Some}
use Rattle.flow_messages.specs.Kinds.{FitsEdge}
use Rattle.flow_messages.specs.Signals.{signals, signal_of, ended}
use Rattle.flow_edges.proofs.OfLanes.InTurn.{given_open, given_fits}
use Rattle.flow_edges.proofs.lanes.pocket.Pocket.take.Goals as goal

pub returns-clause-open : goal.returns-clause-open
returns-clause-open c = ap (λ ms. ended (signals ms)) (sym c.fill_if_empty.ensures.taken) ∙ given_open c.fill_if_empty.new.self c.in_ok-message.message _ c.in_ok-message.ensures.some

pub returns-clause-fits : goal.returns-clause-fits
returns-clause-fits c =
    subst (λ k. FitsEdge k (signal_of c.in_ok-message.message)) (ap (λ w. Some w.0) c.fill_if_empty.ensures.edge)
    (given_fits c.fill_if_empty.new.self c.in_ok-message.message _ c.in_ok-message.ensures.some)
