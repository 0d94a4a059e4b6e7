use Rattle.snesl_data.proofs.Data.{value_of-Seq}
use Rattle.snesl_evaluation.proofs.parts.sequence_of.Goals as goal

pub returns : goal.returns
returns c = value_of-Seq c.args.items
