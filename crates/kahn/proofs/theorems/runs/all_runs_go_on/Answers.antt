use Rattle.kahn.proofs.Conclusions.{all_runs_go_on}
use Rattle.kahn.proofs.theorems.runs.all_runs_go_on.Goals as goal

pub returns : goal.returns
returns g c P net = all_runs_go_on P net
