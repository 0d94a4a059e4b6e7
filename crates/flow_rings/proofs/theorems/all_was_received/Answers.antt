use Rattle.flow_rings.specs.Edge.{sent, received, certain_held, all_sent}
use Rattle.flow_rings.proofs.Lists.{all-there}
use Rattle.flow_rings.proofs.theorems.all_was_received.Goals as goal

pub returns-clause-writer : goal.returns-clause-writer
returns-clause-writer c = λ w r is. all-there (received r) (certain_held r) (sent w) is w.orderly

pub returns-clause-mark : goal.returns-clause-mark
returns-clause-mark c = λ f r is. all-there (received r) (certain_held r) (all_sent f) is f.orderly
