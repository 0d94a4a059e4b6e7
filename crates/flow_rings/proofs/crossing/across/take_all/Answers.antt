use Rattle.std.proofs.Common.{rules, List, sym, ap, ◌∙◌}
use Rattle.flow_messages.specs.declared.message.Msg.{Msg}
use Rattle.flow_messages.specs.Signals.{signals, ended}
use Rattle.flow_messages.proofs.Signals.{ended-snoc}
use Rattle.flow_rings.specs.Edge.{received}
use Rattle.flow_rings.proofs.crossing.across.take_all.Goals as goal

pub returns-then-last : goal.returns-then-last
returns-then-last g c =
    let taken = c.in-Some-take.ensures in
    record {
      same = search rules;
      stopped = ap (λ (ms : List Msg). ended (signals ms)) taken.some.0
          ∙ ended-snoc (received c.loop.reader) c.in-Some-take.message taken.open
          ∙ sym c.is_end-last.ensures
          ∙ c.if-last.true;
      taken = search rules;
    }
