use Rattle.std.proofs.Common.{◌≡◌, false, [], ◌∷◌, ◌++◌, sym, subst, rules}
use Rattle.flow_messages.specs.Signals.{signals, ended}
use Rattle.flow_messages.specs.Stores.{content_of}
use Rattle.flow_messages.specs.Lines.{gone}
use Rattle.flow_messages.proofs.Counts.{count-next}
use Rattle.flow_messages.proofs.Lines.{fifo_put, open_held}
use Rattle.flow_boxes.proofs.outbox.Outbox.put.Goals as goal

pub push-requires-clause-open : goal.push-requires-clause-open
push-requires-clause-open c =
    let o = c.args.self.now in
    let free : ended (signals o.sent.items) ≡ false = search rules in
    open_held o.sent.items (content_of o.store) o.last free

pub invariant_of-self-clause-last : goal.invariant_of-self-clause-last
invariant_of-self-clause-last c =
    let o = c.args.self.now in
    let m = c.args.message in
    subst (λ k. gone k (content_of c.push.new.self) ++ content_of c.push.new.self ≡ k) (sym c.with-sent.ensures)
    (subst (λ k. gone (o.sent.items ++ m ∷ []) k ++ k ≡ o.sent.items ++ m ∷ []) (sym c.push.ensures.content)
    (fifo_put o.sent.items (content_of o.store) o.last (m ∷ [])))

pub invariant_of-self-clause-counts : goal.invariant_of-self-clause-counts
invariant_of-self-clause-counts c =
    count-next c.args.self.now.sent.items c.args.message c.args.self.now.counts c.with-sent.ensures c.saturating_add-self.ensures
