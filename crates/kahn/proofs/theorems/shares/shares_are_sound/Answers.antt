use Rattle.kahn.proofs.Parts.{sound_from}
use Rattle.kahn.proofs.theorems.shares.shares_are_sound.Goals as goal

pub returns : goal.returns
returns g c P net = sound_from P net
