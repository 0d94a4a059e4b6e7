use Rattle.kahn.proofs.Conclusions.{steps_keep_sound}
use Rattle.kahn.proofs.theorems.runs.steps_keep_sound.Goals as goal

pub returns : goal.returns
returns g c P net = steps_keep_sound P net
