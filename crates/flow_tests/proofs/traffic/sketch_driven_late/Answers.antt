use Rattle.flow_nodes.proofs.Sending.{nodes_cross}
use Rattle.flow_tests.proofs.traffic.sketch_driven_late.Goals as goal

pub driven_late-requires-send-T : goal.driven_late-requires-send-T
driven_late-requires-send-T g c κs = search nodes_cross
