use Rattle.kahn.proofs.Shares.{all_together}
use Rattle.kahn.proofs.theorems.shares.all_shares_are_one_run.Goals as goal

pub returns : goal.returns
returns g c P net limit share shares c' events ends side = all_together P net limit share shares c' events ends side
