use Rattle.kahn.proofs.Rounds.{shares_are_one_run}
use Rattle.kahn.proofs.theorems.shares.shares_are_one_run.Goals as goal

pub returns : goal.returns
returns g c P net = shares_are_one_run P net
