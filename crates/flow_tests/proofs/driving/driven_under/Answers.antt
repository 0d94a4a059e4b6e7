use Rattle.flow_nodes.proofs.Sending.{nodes_cross}
use Rattle.flow_tests.proofs.driving.driven_under.Goals as goal

pub driven_any-requires-send-T : goal.driven_any-requires-send-T
driven_any-requires-send-T g c κs within = search nodes_cross
