use Rattle.flow_nodes.proofs.Sending.{nodes_cross}
use Rattle.flow_drive.proofs.driving.drive.Goals as goal

pub drive-requires-send-T : goal.drive-requires-send-T
drive-requires-send-T g c κs within = search nodes_cross
