use Rattle.flow_nodes.proofs.Sending.{nodes_cross}
use Rattle.flow_drive.proofs.driving.drive_with.Goals as goal

pub drive_with-requires-send-T : goal.drive_with-requires-send-T
drive_with-requires-send-T g c κs within = search nodes_cross
