use Rattle.kahn.proofs.Conclusions.{runs_come_out_alike}
use Rattle.kahn.proofs.theorems.rest.runs_come_out_alike.Goals as goal

pub returns : goal.returns
returns g c P net = runs_come_out_alike P net
