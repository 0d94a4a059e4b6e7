use Rattle.std.proofs.Common.{List, length, ap, sym, ◌∙◌, arith, length-append}
use Rattle.flow_messages.specs.declared.message.Msg.{Msg}
use Rattle.flow_messages.specs.Contents.{item_messages}
use Rattle.flow_messages.specs.Signals.{signals, ended, orderly}
use Rattle.flow_messages.proofs.Signals.{ended-more, orderly-more}
use Rattle.flow_messages.proofs.SideBySide.{messages-open, messages-orderly}
use Rattle.flow_words.specs.Edge.{sent}
use Rattle.flow_words.proofs.Lists.{followed_shut, followed_free}
use Rattle.flow_words.proofs.ring.WordWriter.put_all.Goals as goal

pub returns-then-self-clause-put : goal.returns-then-self-clause-put
returns-then-self-clause-put c = sym (followed_shut (sent c.args.self.now) (item_messages c.args.items) (sym c.args.self.now.closes ∙ c.if-self.true))

pub invariant_of-self-clause-closes : goal.invariant_of-self-clause-closes
invariant_of-self-clause-closes c =
    let before = sent c.args.self.now in
    let free = sym c.args.self.now.closes ∙ c.if-self.false in
    c.if-self.false ∙ sym (ap (λ (ms : List Msg). ended (signals ms)) c.push_all.ensures.put ∙ ended-more before (item_messages c.args.items) free ∙ messages-open c.args.items)

pub invariant_of-self-clause-orderly : goal.invariant_of-self-clause-orderly
invariant_of-self-clause-orderly c =
    let before = sent c.args.self.now in
    let free = sym c.args.self.now.closes ∙ c.if-self.false in
    ap (λ (ms : List Msg). orderly (signals ms)) c.push_all.ensures.put ∙ orderly-more before (item_messages c.args.items) free ∙ messages-orderly c.args.items

pub invariant_of-self-clause-counts : goal.invariant_of-self-clause-counts
invariant_of-self-clause-counts c =
    omega (
      arith,
      ap length c.push_all.ensures.put,
      length-append (sent c.args.self.now) (item_messages c.args.items),
      c.args.self.now.counts,
      c.saturating_add-self.ensures,
    )

pub returns-clause-put : goal.returns-clause-put
returns-clause-put c = c.push_all.ensures.put ∙ sym (followed_free (sent c.args.self.now) (item_messages c.args.items) (sym c.args.self.now.closes ∙ c.if-self.false))
