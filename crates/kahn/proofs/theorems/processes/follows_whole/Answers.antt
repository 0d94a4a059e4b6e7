use Rattle.kahn.proofs.Conclusions.{follows_whole}
use Rattle.kahn.proofs.theorems.processes.follows_whole.Goals as goal

pub returns : goal.returns
returns g c P opening inputs outputs lawful = follows_whole P opening inputs outputs lawful
