use Rattle.flow_networks.proofs.Schedules.{end_alike}
use Rattle.flow_networks.proofs.theorems.schedules_end_alike.Goals as goal

pub returns : goal.returns
returns g c capacity states edges network schedule started last events scheduled maximal =
    end_alike g.T.Transducer.behaviour capacity states edges network schedule started last events scheduled maximal
