use Rattle.flow_messages.proofs.Waiting.{held-count, room-count, none-waits}
use Rattle.flow_messages.proofs.theorems.counts_are_exact.Goals as goal

pub returns : goal.returns
returns c = record { held = held-count; room = room-count; none = none-waits }
