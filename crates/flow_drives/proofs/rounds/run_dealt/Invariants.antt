use Rattle.flow_drives.proofs.rounds.run_dealt.Given as goal

abbrev pub ghost-run_rounds : goal.ghost-run_rounds
ghost-run_rounds g a = g.network

abbrev pub ghost-gather_graph : goal.ghost-gather_graph
ghost-gather_graph g a = g.network
