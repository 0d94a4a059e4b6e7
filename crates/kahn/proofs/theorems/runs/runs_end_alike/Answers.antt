use Rattle.kahn.proofs.Conclusions.{runs_end_alike}
use Rattle.kahn.proofs.theorems.runs.runs_end_alike.Goals as goal

pub returns : goal.returns
returns g c P net = runs_end_alike P net
