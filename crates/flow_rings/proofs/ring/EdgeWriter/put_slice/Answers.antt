use Rattle.std.proofs.Common.{rules, ap, sym, ◌∙◌}
use Rattle.flow_messages.specs.declared.message.Msg.{Msg}
use Rattle.flow_messages.specs.Signals.{signals, ended, orderly}
use Rattle.flow_messages.proofs.Signals.{ended-more, orderly-more}
use Rattle.std.proofs.Common.{List}
use Rattle.flow_messages.specs.Flats.{messages_of}
use Rattle.flow_rings.specs.Edge.{sent}
use Rattle.flow_rings.proofs.ring.EdgeWriter.put_slice.Goals as goal

pub invariant_of-self-2-clause-closes : goal.invariant_of-self-2-clause-closes
invariant_of-self-2-clause-closes c =
    let before = sent c.args.self.now in
    let block = messages_of c.args.flats.now in
    let done = c.if-not-push_slice.ensures.done (search rules) in
    c.ends-has_end.ensures ∙ sym (ended-more before block (sym c.args.self.now.closes ∙ c.if-was_closed.false)) ∙ ap (λ (ms : List Msg). ended (signals ms)) (sym done.0)

pub invariant_of-self-2-clause-orderly : goal.invariant_of-self-2-clause-orderly
invariant_of-self-2-clause-orderly c =
    let before = sent c.args.self.now in
    let block = messages_of c.args.flats.now in
    let done = c.if-not-push_slice.ensures.done (search rules) in
    ap (λ (ms : List Msg). orderly (signals ms)) done.0 ∙ orderly-more before block (sym c.args.self.now.closes ∙ c.if-was_closed.false) ∙ c.requires.last
