use Rattle.kahn.proofs.Conclusions.{same_traffic}
use Rattle.kahn.proofs.theorems.traffic.same_traffic.Goals as goal

pub returns : goal.returns
returns g c P net = same_traffic P net
