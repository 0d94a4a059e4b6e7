use Rattle.kahn.proofs.AllHistories.{all_histories_are_one_run}
use Rattle.kahn.proofs.theorems.histories.all_histories_are_one_run.Goals as goal

pub returns : goal.returns
returns g c P net wired lawful = all_histories_are_one_run P net wired lawful
