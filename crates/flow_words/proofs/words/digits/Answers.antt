use Rattle.flow_words.proofs.Digits.{digits_are}
use Rattle.flow_words.proofs.words.digits.Goals as goal

pub returns-clause-number : goal.returns-clause-number
returns-clause-number c = digits_are c.args.number c.ranges.number
