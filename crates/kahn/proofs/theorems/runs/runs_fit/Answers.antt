use Rattle.kahn.proofs.Conclusions.{runs_fit}
use Rattle.kahn.proofs.theorems.runs.runs_fit.Goals as goal

pub returns : goal.returns
returns g c P net = runs_fit P net
