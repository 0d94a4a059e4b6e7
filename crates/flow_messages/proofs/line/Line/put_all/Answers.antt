use Rattle.std.proofs.Common.{◌≡◌, false, ◌++◌, sym, ap, ◌∙◌}
use Rattle.flow_messages.specs.Signals.{signals, ended, orderly}
use Rattle.flow_messages.specs.Stores.{content_of}
use Rattle.flow_messages.specs.Contents.{item_messages}
use Rattle.flow_messages.proofs.Signals.{ended-more, orderly-more}
use Rattle.flow_messages.proofs.SideBySide.{messages-open, messages-orderly}
use Rattle.flow_messages.proofs.Lines.{fifo_put, count_put, open_held}
use Rattle.flow_messages.proofs.line.Line.put_all.Goals as goal

pub invariant_of-self : goal.invariant_of-self
invariant_of-self c =
    let l = c.args.self.now in
    let s = l.sent.items in
    let now = content_of l.store in
    let block = item_messages c.args.items in
    let free : ended (signals s) ≡ false = sym c.is_closed.ensures ∙ c.if-is_closed.false in
    let sent = c.with_items-self.ensures ∙ ap (λ h. h.items ++ block) c.replace.ensures.value in
    let held = c.put_all.ensures.content in
    record {
      fifo = rw (sent, held) (fifo_put s now l.fifo block);
      closes = l.closes ∙ free ∙ sym (ap (λ k. ended (signals k)) sent ∙ ended-more s block free ∙ messages-open c.args.items);
      counts = rw (sent, held) (count_put s now l.fifo block l.taken l.counts);
      orderly = ap (λ k. orderly (signals k)) sent ∙ orderly-more s block free ∙ messages-orderly c.args.items;
    }

pub put_all-requires-clause-open : goal.put_all-requires-clause-open
put_all-requires-clause-open c =
    let l = c.args.self.now in
    open_held l.sent.items (content_of l.store) l.fifo (sym c.is_closed.ensures ∙ c.if-is_closed.false)
