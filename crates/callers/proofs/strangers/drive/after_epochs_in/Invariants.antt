use Rattle.callers.proofs.strangers.drive.after_epochs_in.Given as goal

abbrev pub ghost-epoch : goal.ghost-epoch
ghost-epoch g a = g.network

abbrev pub ghost-epoch_with : goal.ghost-epoch_with
ghost-epoch_with g a = g.network
