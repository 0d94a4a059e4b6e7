use Rattle.std.proofs.Common.{[], ◌∷◌, refl}
use Rattle.flow_messages.specs.Stores.{content_of}
use Rattle.flow_messages.proofs.Lines.{gone_rest, fifo_rest, count_rest}
use Rattle.flow_boxes.proofs.inbox.Inbox.take.Goals as goal

pub invariant_of-self-2 : goal.invariant_of-self-2
invariant_of-self-2 c =
    let i = c.args.self.now in
    let all = i.arrived.items in
    let now = content_of i.store in
    let rest = content_of c.pop.new.self in
    let one = c.in_ok-message.message ∷ [] in
    let is = c.in_ok-message.ensures.some in
    record {
      fifo = fifo_rest all now i.fifo one rest is;
      counts = count_rest all now i.fifo one rest i.taken 1 _ is i.counts refl c.saturating_add-self.ensures;
    }

pub returns-clause-received : goal.returns-clause-received
returns-clause-received c =
    let i = c.args.self.now in
    let is = c.in_ok-message.ensures.some in
    gone_rest i.arrived.items (content_of i.store) i.fifo (c.in_ok-message.message ∷ []) (content_of c.pop.new.self) is
