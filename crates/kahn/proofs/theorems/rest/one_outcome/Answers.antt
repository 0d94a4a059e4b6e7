use Rattle.kahn.proofs.Conclusions.{one_outcome}
use Rattle.kahn.proofs.theorems.rest.one_outcome.Goals as goal

pub returns : goal.returns
returns g c P net = one_outcome P net
