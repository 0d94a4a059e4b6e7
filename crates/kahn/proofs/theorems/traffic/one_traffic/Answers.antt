use Rattle.kahn.proofs.Conclusions.{one_traffic}
use Rattle.kahn.proofs.theorems.traffic.one_traffic.Goals as goal

pub returns : goal.returns
returns g c P net = one_traffic P net
