use Rattle.flow_networks.proofs.Alike.{rest_alike}
use Rattle.flow_networks.proofs.theorems.runs_rest_alike.Goals as goal

pub returns : goal.returns
returns g c capacity states edges network one other view more many as_many run again =
    rest_alike g.T.Transducer.behaviour capacity edges states network one other view more many as_many run again
