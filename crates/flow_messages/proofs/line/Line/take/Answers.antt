use Rattle.std.proofs.Common.{[], ◌∷◌, length, refl, ap, arith}
use Rattle.flow_messages.specs.Stores.{content_of}
use Rattle.flow_messages.proofs.Lines.{fifo_rest, count_rest}
use Rattle.flow_messages.proofs.Tables.{given}
use Rattle.flow_messages.proofs.line.Line.take.Goals as goal

pub invariant_of-self : goal.invariant_of-self
invariant_of-self c =
    let l = c.args.self.now in
    let s = l.sent.items in
    let now = content_of l.store in
    let rest = content_of c.pop.new.self in
    let oldest = given c.pop.result c.pop.ensures.some c.pop.ensures.none (λ none. omega (arith, ap length none.0, c.len.ensures, c.if-len-eq0.false)) in
    record {
      fifo = fifo_rest s now l.fifo (oldest.0 ∷ []) rest oldest.1;
      closes = l.closes;
      counts = count_rest s now l.fifo (oldest.0 ∷ []) rest l.taken 1 _ oldest.1 l.counts refl c.saturating_add-self.ensures;
      orderly = l.orderly;
    }
