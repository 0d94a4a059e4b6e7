use Rattle.flow_nodes.proofs.Sending.{nodes_cross}
use Rattle.callers.proofs.strangers.drive.shares_after_epochs.Goals as goal

pub after_epochs-requires-send-T : goal.after_epochs-requires-send-T
after_epochs-requires-send-T g c κs within = search nodes_cross
