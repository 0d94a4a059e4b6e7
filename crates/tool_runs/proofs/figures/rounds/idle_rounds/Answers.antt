use denote.Param.Send.{sendable}
use Rattle.std.proofs.Crossing.{crosses}
use Rattle.flow_drives.proofs.OfLoops.Sends.{boxes_send}
use Rattle.tool_runs.proofs.figures.rounds.idle_rounds.Goals as goal

pub run_all-requires-send-E : goal.run_all-requires-send-E
run_all-requires-send-E g c κs within = search (boxes_send, crosses, sendable) depth 60 fits 20000
