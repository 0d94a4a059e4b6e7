use Rattle.flow_part_tests.proofs.Bare.{bare_network}
use Rattle.flow_part_tests.proofs.epochs.run_bare.Given as goal

abbrev pub ghost-run_epochs : goal.ghost-run_epochs
ghost-run_epochs g a = bare_network g.T.Transducer
