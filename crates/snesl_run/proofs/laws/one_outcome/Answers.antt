use Rattle.snesl_run.proofs.Alike.{one_outcome}
use Rattle.snesl_run.proofs.laws.one_outcome.Goals as goal

pub returns : goal.returns
returns c = one_outcome c.one_network.ensures c.runs_rest_alike.ensures
