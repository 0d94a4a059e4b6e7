use Rattle.kahn.proofs.Conclusions.{never_stalls}
use Rattle.kahn.proofs.theorems.rest.never_stalls.Goals as goal

pub returns : goal.returns
returns g c P net = never_stalls P net
