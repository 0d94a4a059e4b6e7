use Rattle.kahn.proofs.Conclusions.{follows_lists}
use Rattle.kahn.proofs.theorems.processes.follows_lists.Goals as goal

pub returns : goal.returns
returns g c P opening inputs outputs lawful = follows_lists P opening inputs outputs lawful
