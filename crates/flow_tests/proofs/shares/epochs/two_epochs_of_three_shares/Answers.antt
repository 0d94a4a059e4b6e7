use Rattle.flow_nodes.proofs.Sending.{nodes_cross}
use Rattle.flow_tests.proofs.shares.epochs.two_epochs_of_three_shares.Goals as goal

pub two_epochs-requires-send-T : goal.two_epochs-requires-send-T
two_epochs-requires-send-T g c κs = search nodes_cross
