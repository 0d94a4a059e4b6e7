use Rattle.kahn.proofs.Conclusions.{carries_from_nodes}
use Rattle.kahn.proofs.theorems.traffic.carries_from_nodes.Goals as goal

pub returns : goal.returns
returns g c P net traffic each = carries_from_nodes P net traffic each
