use Rattle.std.proofs.Common.{◌≡◌, false, ◌++◌, length, sym, ap, ◌∙◌, arith, length-append}
use Rattle.flow_messages.specs.Signals.{signals, ended, orderly}
use Rattle.flow_messages.specs.Stores.{content_of}
use Rattle.flow_messages.specs.Contents.{item_messages}
use Rattle.flow_messages.proofs.Signals.{ended-more, orderly-more}
use Rattle.flow_messages.proofs.SideBySide.{messages-open, messages-orderly}
use Rattle.flow_messages.proofs.Lines.{fifo_put, open_held}
use Rattle.flow_boxes.proofs.outbox.Outbox.put_all.Goals as goal

pub put_all-requires-clause-open : goal.put_all-requires-clause-open
put_all-requires-clause-open c =
    let o = c.args.self.now in
    open_held o.sent.items (content_of o.store) o.last (sym c.is_closed.ensures ∙ c.if-is_closed.false)

pub invariant_of-self : goal.invariant_of-self
invariant_of-self c =
    let o = c.args.self.now in
    let s = o.sent.items in
    let x = c.args.items in
    let block = item_messages x in
    let free : ended (signals s) ≡ false = sym c.is_closed.ensures ∙ c.if-is_closed.false in
    let sent = c.with_items-self.ensures ∙ ap (λ h. h.items ++ block) c.replace.ensures.value in
    let waiting = c.with_items-self-2.ensures ∙ ap (λ h. h.items ++ block) c.replace-2.ensures.value in
    record {
      waits = waiting ∙ ap (λ l. l ++ block) o.waits ∙ sym c.put_all.ensures.content;
      last = rw (sent, c.put_all.ensures.content) (fifo_put s (content_of o.store) o.last block);
      closes = o.closes ∙ free ∙ sym (ap (λ k. ended (signals k)) sent ∙ ended-more s block free ∙ messages-open x);
      counts = omega (arith, o.counts, c.saturating_add-self.ensures, ap length sent, length-append s block);
      orderly = ap (λ k. orderly (signals k)) sent ∙ orderly-more s block free ∙ messages-orderly x;
      reserved = omega (arith, o.reserved, c.requires.room, ap length c.put_all.ensures.content, length-append (content_of o.store) block, c.put_all.ensures.capacity);
    }
