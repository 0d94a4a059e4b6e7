use Rattle.std.proofs.Common.{length, ap, arith, length-append}
use Rattle.flow_words.specs.Ring.{received, known_items}
use Rattle.flow_words.proofs.Coming.{come_length}
use Rattle.flow_words.proofs.ring.WordReader.take_certain.Goals as goal

pub overflow_sub-len : goal.overflow_sub-len
overflow_sub-len c =
    let came = c.drain-self.ensures.came in
    omega (arith, c.len-held.ensures, c.len.ensures, come_length (known_items c.args.self.now.ring) c.args.inbox.now c.drain-self.new.inbox came.come)

pub invariant_of-self-clause-orderly : goal.invariant_of-self-clause-orderly
invariant_of-self-clause-orderly c =
    let came = c.drain-self.ensures.came in
    came.orderly c.args.self.now.orderly

pub invariant_of-self-clause-counts : goal.invariant_of-self-clause-counts
invariant_of-self-clause-counts c =
    let came = c.drain-self.ensures.came in
    omega (
      arith,
      c.args.self.now.counts,
      c.saturating_add-self.ensures,
      c.len-held.ensures,
      c.len.ensures,
      ap length came.taken,
      length-append (received c.args.self.now.ring) (known_items c.args.self.now.ring),
      come_length (known_items c.args.self.now.ring) c.args.inbox.now c.drain-self.new.inbox came.come,
    )
