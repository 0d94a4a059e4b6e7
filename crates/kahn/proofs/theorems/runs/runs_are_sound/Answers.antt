use Rattle.kahn.proofs.Conclusions.{runs_are_sound}
use Rattle.kahn.proofs.theorems.runs.runs_are_sound.Goals as goal

pub returns : goal.returns
returns g c P net = runs_are_sound P net
