use Rattle.kahn.proofs.Conclusions.{end_is_last}
use Rattle.kahn.proofs.theorems.runs.end_is_last.Goals as goal

pub returns : goal.returns
returns g c P net = end_is_last P net
