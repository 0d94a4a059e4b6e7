use Rattle.flow_edges.proofs.OfLanes.Sends.{rings_send}
use denote.Param.Send.{sendable}
use Rattle.std.proofs.Crossing.{crosses}
use Rattle.flow_part_tests.proofs.epochs.run_once.Goals as goal

pub run_all-requires-send-E : goal.run_all-requires-send-E
run_all-requires-send-E g c κs within = search (rings_send, crosses, sendable) depth 60 fits 20000
