use Rattle.std.proofs.Common.{length, ap, arith, length-append}
use Rattle.flow_words.specs.Ring.{received}
use Rattle.flow_words.proofs.Coming.{come_length}
use Rattle.flow_words.proofs.ring.WordReader.take_into.Goals as goal

pub overflow_sub-len : goal.overflow_sub-len
overflow_sub-len c =
    let came = c.take_over-group.ensures.came.1 in
    omega (arith, c.len-held.ensures, c.len.ensures, come_length c.take_over-group.ensures.came.0 c.args.inbox.now c.take_over-group.new.inbox came.come)

pub invariant_of-self-clause-orderly : goal.invariant_of-self-clause-orderly
invariant_of-self-clause-orderly c =
    let came = c.take_over-group.ensures.came.1 in
    came.orderly c.args.self.now.orderly

pub invariant_of-self-clause-counts : goal.invariant_of-self-clause-counts
invariant_of-self-clause-counts c =
    let came = c.take_over-group.ensures.came.1 in
    omega (
      arith,
      c.args.self.now.counts,
      c.saturating_add-self.ensures,
      c.len-held.ensures,
      c.len.ensures,
      ap length came.taken,
      length-append (received c.args.self.now.ring) c.take_over-group.ensures.came.0,
      come_length c.take_over-group.ensures.came.0 c.args.inbox.now c.take_over-group.new.inbox came.come,
    )
