use Rattle.flow_tests.proofs.shares.epochs.two_epochs_in.Given as goal

abbrev pub ghost-epoch : goal.ghost-epoch
ghost-epoch g a = g.network
