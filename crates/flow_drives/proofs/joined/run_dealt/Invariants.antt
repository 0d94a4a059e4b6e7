use Rattle.flow_drives.proofs.joined.run_dealt.Given as goal

abbrev pub ghost-run_epochs : goal.ghost-run_epochs
ghost-run_epochs g a = g.network

abbrev pub ghost-places_of : goal.ghost-places_of
ghost-places_of g a = g.network
