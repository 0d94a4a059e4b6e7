use Rattle.kahn.proofs.Histories.{histories_are_runs}
use Rattle.kahn.proofs.theorems.histories.histories_are_runs.Goals as goal

pub returns : goal.returns
returns g c P net wired lawful = histories_are_runs P net wired lawful
