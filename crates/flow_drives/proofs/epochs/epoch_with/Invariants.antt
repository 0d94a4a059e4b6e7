use Rattle.flow_drives.proofs.epochs.epoch_with.Given as goal

abbrev pub ghost-owners_of_shares : goal.ghost-owners_of_shares
ghost-owners_of_shares g a = g.network

abbrev pub ghost-epoch : goal.ghost-epoch
ghost-epoch g a = g.network
