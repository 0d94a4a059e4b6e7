use Rattle.kahn.proofs.Conclusions.{ends_or_stalls}
use Rattle.kahn.proofs.theorems.rest.ends_or_stalls.Goals as goal

pub returns : goal.returns
returns g c P net = ends_or_stalls P net
