use Rattle.std.proofs.Common.{◌≡◌, false, [], ◌∷◌, ◌++◌, sym, subst, rules}
use Rattle.flow_messages.specs.Signals.{signals, ended}
use Rattle.flow_messages.specs.Stores.{content_of}
use Rattle.flow_messages.specs.Lines.{gone}
use Rattle.flow_messages.proofs.Lines.{fifo_put, count_put, open_held}
use Rattle.flow_messages.proofs.line.Line.put.Goals as goal

pub invariant_of-self-clause-fifo : goal.invariant_of-self-clause-fifo
invariant_of-self-clause-fifo c =
    let l = c.args.self.now in
    let m = c.args.message in
    subst (λ k. gone k (content_of c.push.new.self) ++ content_of c.push.new.self ≡ k) (sym c.with-sent.ensures)
    (subst (λ k. gone (l.sent.items ++ m ∷ []) k ++ k ≡ l.sent.items ++ m ∷ []) (sym c.push.ensures.content)
    (fifo_put l.sent.items (content_of l.store) l.fifo (m ∷ [])))

pub invariant_of-self-clause-counts : goal.invariant_of-self-clause-counts
invariant_of-self-clause-counts c =
    let l = c.args.self.now in
    let m = c.args.message in
    rw (c.with-sent.ensures, c.push.ensures.content) (count_put l.sent.items (content_of l.store) l.fifo (m ∷ []) l.taken l.counts)

pub push-requires-clause-open : goal.push-requires-clause-open
push-requires-clause-open c =
    let l = c.args.self.now in
    let free : ended (signals l.sent.items) ≡ false = search rules in
    open_held l.sent.items (content_of l.store) l.fifo free
