use Rattle.flow_messages.proofs.Waiting.{nothing-behind}
use Rattle.flow_messages.proofs.theorems.nothing_after_stop.Goals as goal

pub returns : goal.returns
returns c = nothing-behind
