use Rattle.kahn.proofs.Conclusions.{epochs_end}
use Rattle.kahn.proofs.theorems.traffic.epochs_end.Goals as goal

pub returns : goal.returns
returns g c P net = epochs_end P net
