use Rattle.flow_assembly.proofs.OneNetwork.{one_network}
use Rattle.flow_assembly.proofs.laws.plan_has_one_network.Goals as goal

pub returns : goal.returns
returns c = one_network
