use Rattle.flow_drives.specs.Origins.{network_in}
use Rattle.flow_drives.proofs.rounds.drive_rounds.Given as goal

abbrev pub ghost-run_dealt : goal.ghost-run_dealt
ghost-run_dealt g a = network_in a.origin
