use Rattle.callers.proofs.OfStrangers.Blocks.{alone, one_is_last, one_int_goes}
use Rattle.callers.proofs.strangers.edges.put_in_a_block.Goals as goal

pub put_block-requires-clause-fit : goal.put_block-requires-clause-fit
put_block-requires-clause-fit g c = one_int_goes _ _ _ (c.takes.ensures.0 c.if-not-takes.false) (alone c.push.ensures.items c.new-block.ensures)

pub put_block-requires-clause-last : goal.put_block-requires-clause-last
put_block-requires-clause-last g c = one_is_last _ _ (alone c.push.ensures.items c.new-block.ensures)
