use Rattle.snesl_syntax.proofs.Verdicts.{one_parse}
use Rattle.snesl_syntax.proofs.SomeAnswer.{some_parse}
use Rattle.snesl_syntax.proofs.parser.one_answer.Goals as goal

pub returns : goal.returns
returns c = record { one = one_parse; some = some_parse }
