use Rattle.flow_nodes.proofs.Sending.{nodes_cross}
use Rattle.snesl_network_tests.proofs.inputs.assert_prints.Goals as goal

pub drive-requires-send-T : goal.drive-requires-send-T
drive-requires-send-T g c κs = search nodes_cross
