use Rattle.std.proofs.Common.{◌++◌, ap, ◌∙◌}
use Rattle.flow_messages.specs.Contents.{item_messages}
use Rattle.flow_boxes.proofs.Arrived.{arrives, stays_in_order, stays_counted}
use Rattle.flow_boxes.proofs.inbox.Inbox.push_all.Goals as goal

pub invariant_of-self : goal.invariant_of-self
invariant_of-self c =
    let block = item_messages c.args.items in
    let arrived = c.with_items-self.ensures ∙ ap (λ h. h.items ++ block) c.replace.ensures.value in
    record {
      fifo = stays_in_order c.args.self.now block _ _ arrived c.put_all.ensures.content;
      counts = stays_counted c.args.self.now block _ _ arrived c.put_all.ensures.content;
    }

pub returns : goal.returns
returns c =
    let block = item_messages c.args.items in
    let arrived = c.with_items-self.ensures ∙ ap (λ h. h.items ++ block) c.replace.ensures.value in
    arrives c.args.self.now _ block arrived c.put_all.ensures.content c.put_all.ensures.kind c.put_all.ensures.capacity
