use Rattle.snesl_flatten.proofs.OfNetwork.OneNetwork.{one_network}
use Rattle.snesl_flatten.proofs.network.laws.one_network.Goals as goal

pub returns : goal.returns
returns c = one_network c.one_answer.ensures.one c.one_input_meaning.ensures.one c.plan_has_one_network.ensures
