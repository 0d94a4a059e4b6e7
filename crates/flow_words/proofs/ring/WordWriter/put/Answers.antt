use Rattle.std.proofs.Common.{rules, List, ap, sym, ◌∙◌}
use Rattle.flow_messages.specs.declared.message.Msg.{Msg}
use Rattle.flow_messages.specs.Signals.{signals, ended, orderly}
use Rattle.flow_messages.proofs.Counts.{count-next}
use Rattle.flow_messages.proofs.Signals.{ended-snoc, orderly-snoc}
use Rattle.flow_words.specs.Edge.{sent}
use Rattle.flow_words.proofs.ring.WordWriter.put.Goals as goal

pub invariant_of-self-2-clause-closes : goal.invariant_of-self-2-clause-closes
invariant_of-self-2-clause-closes c =
    let before = sent c.args.self.now in
    let done = c.if-not-push.ensures.done (search rules) in
    c.is_end-self.ensures ∙ sym (ended-snoc before c.args.message (sym c.args.self.now.closes ∙ c.if-self.false)) ∙ ap (λ (ms : List Msg). ended (signals ms)) (sym done)

pub invariant_of-self-2-clause-orderly : goal.invariant_of-self-2-clause-orderly
invariant_of-self-2-clause-orderly c =
    let before = sent c.args.self.now in
    let done = c.if-not-push.ensures.done (search rules) in
    ap (λ (ms : List Msg). orderly (signals ms)) done ∙ orderly-snoc before c.args.message (sym c.args.self.now.closes ∙ c.if-self.false)

pub invariant_of-self-2-clause-counts : goal.invariant_of-self-2-clause-counts
invariant_of-self-2-clause-counts c =
    let done = c.if-not-push.ensures.done (search rules) in
    count-next (sent c.args.self.now) c.args.message c.args.self.now.counts done c.saturating_add-self.ensures
