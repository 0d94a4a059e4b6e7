use Rattle.flow_drives.proofs.epochs.epoch.Given as goal

abbrev pub ghost-epoch_with : goal.ghost-epoch_with
ghost-epoch_with g a = g.network
