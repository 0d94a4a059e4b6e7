use Rattle.flow_shares.specs.meetings.SharedNetworks.{shared_network}
use Rattle.flow_part_tests.proofs.opening.gathered_again.Given as goal

abbrev pub ghost-deal_and_gather : goal.ghost-deal_and_gather
ghost-deal_and_gather a = shared_network a.graph a.share.now a.capacity
