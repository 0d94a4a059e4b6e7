use Rattle.flow_drives.proofs.loops.round.round.Given as goal

abbrev pub ghost-meet : goal.ghost-meet
ghost-meet g a = g.network
