use Rattle.kahn.proofs.Conclusions.{whole_traffic}
use Rattle.kahn.proofs.theorems.traffic.whole_traffic.Goals as goal

pub returns : goal.returns
returns g c P net = whole_traffic P net
