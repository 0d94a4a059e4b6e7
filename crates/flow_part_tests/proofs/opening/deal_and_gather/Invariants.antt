use Rattle.flow_part_tests.proofs.opening.deal_and_gather.Given as goal

abbrev pub ghost-gather_graph : goal.ghost-gather_graph
ghost-gather_graph g a = g.network
