use Rattle.kahn.proofs.Conclusions.{all_received}
use Rattle.kahn.proofs.theorems.rest.all_received.Goals as goal

pub returns : goal.returns
returns g c P net = all_received P net
