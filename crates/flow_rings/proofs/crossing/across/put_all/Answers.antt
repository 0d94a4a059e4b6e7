use Rattle.std.proofs.Common.{◌++◌, List, sym, ap, ◌∙◌}
use Rattle.flow_messages.specs.Signals.{signals, orderly}
use Rattle.flow_messages.specs.declared.message.Msg.{Msg}
use Rattle.flow_rings.specs.Edge.{sent}
use Rattle.flow_rings.proofs.OfCrossing.Lists.{open-before}
use Rattle.flow_rings.proofs.crossing.across.put_all.Goals as goal

pub put_waiting-requires-clause-unended : goal.put_waiting-requires-clause-unended
put_waiting-requires-clause-unended g c =
    let before = sent c.loop-message.writer in
    let whole = ap (λ (ms : List Msg). before ++ ms) (sym c.in-Some.ensures.steps.0) ∙ c.loop-message.invariant.1 in
    open-before before c.in-Some.message c.next.new.self.rest.items (ap (λ (ms : List Msg). orderly (signals ms)) whole ∙ c.requires.2)
