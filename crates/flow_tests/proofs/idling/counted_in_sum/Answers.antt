use Rattle.flow_nodes.proofs.Sending.{nodes_cross}
use Rattle.flow_tests.proofs.idling.counted_in_sum.Goals as goal

pub counted-requires-send-T : goal.counted-requires-send-T
counted-requires-send-T g c κs = search nodes_cross
