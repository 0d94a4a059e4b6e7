use Rattle.flow_drive.specs.Dealings.{network_under}
use Rattle.callers.proofs.strangers.drive.after_epochs.Given as goal

abbrev pub ghost-after_epochs_in : goal.ghost-after_epochs_in
ghost-after_epochs_in g a = network_under a.graph a.config.now
