use Rattle.std.proofs.Common.{refl, take, ◌++◌, sym, ap, ◌∙◌}
use Rattle.std.proofs.lemmas.List.{take-append-drop, length-take-le}
use Rattle.flow_messages.specs.Stores.{content_of}
use Rattle.flow_messages.proofs.Lines.{gone_rest, fifo_rest, count_rest}
use Rattle.flow_boxes.proofs.inbox.Inbox.skip.Goals as goal

pub invariant_of-self : goal.invariant_of-self
invariant_of-self c =
    let i = c.args.self.now in
    let all = i.arrived.items in
    let now = content_of i.store in
    let n = c.args.count in
    let rest = content_of c.skip.new.self in
    let is = sym (take-append-drop n now) ∙ ap (λ k. take n now ++ k) (sym c.skip.ensures.content) in
    record {
      fifo = fifo_rest all now i.fifo (take n now) rest is;
      counts = count_rest all now i.fifo (take n now) rest i.taken n _ is i.counts (length-take-le n now c.requires) c.saturating_add-self.ensures;
    }

pub returns : goal.returns
returns c =
    let i = c.args.self.now in
    let now = content_of i.store in
    let n = c.args.count in
    let is = sym (take-append-drop n now) ∙ ap (λ k. take n now ++ k) (sym c.skip.ensures.content) in
    record {
      kind = c.skip.ensures.kind;
      reserved = c.skip.ensures.capacity;
      arrived = refl;
      received = gone_rest i.arrived.items now i.fifo (take n now) (content_of c.skip.new.self) is;
      rest = c.skip.ensures.content;
    }
