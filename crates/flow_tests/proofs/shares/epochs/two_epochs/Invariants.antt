use Rattle.flow_drives.specs.Dealings.{network_under}
use Rattle.flow_tests.proofs.shares.epochs.two_epochs.Given as goal

abbrev pub ghost-two_epochs_in : goal.ghost-two_epochs_in
ghost-two_epochs_in g a = network_under a.graph a.config.now
