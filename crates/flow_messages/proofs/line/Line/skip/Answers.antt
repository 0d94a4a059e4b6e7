use Rattle.std.proofs.Common.{◌++◌, take, sym, ap, ◌∙◌}
use Rattle.std.proofs.lemmas.List.{take-append-drop, length-take-le}
use Rattle.flow_messages.specs.Stores.{content_of}
use Rattle.flow_messages.proofs.Lines.{fifo_rest, count_rest}
use Rattle.flow_messages.proofs.line.Line.skip.Goals as goal

pub invariant_of-self : goal.invariant_of-self
invariant_of-self c =
    let l = c.args.self.now in
    let s = l.sent.items in
    let now = content_of l.store in
    let n = c.args.count in
    let is = sym (take-append-drop n now) ∙ ap (λ k. take n now ++ k) (sym c.skip.ensures.content) in
    let size = length-take-le n now c.requires in
    record {
      fifo = fifo_rest s now l.fifo (take n now) _ is;
      closes = l.closes;
      counts = count_rest s now l.fifo (take n now) _ l.taken n _ is l.counts size c.saturating_add-self.ensures;
      orderly = l.orderly;
    }
