use Rattle.snesl_values.proofs.First.{digits_pass}
use Rattle.snesl_values.proofs.marks.minus_mark.Goals as goal

pub number_mark-requires : goal.number_mark-requires
number_mark-requires c = digits_pass c.args.rest.now c.digits_len-len.result c.digits_len-len.ensures.count
