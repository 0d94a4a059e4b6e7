use Rattle.flow_drives.proofs.OfLoops.Few.{epochs_are_few}
use Rattle.flow_drives.proofs.loops.theorems.epochs_are_few.Goals as goal

pub returns : goal.returns
returns g c = epochs_are_few g.T.Transducer _
