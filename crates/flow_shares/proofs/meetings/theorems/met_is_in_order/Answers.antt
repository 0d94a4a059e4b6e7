use Rattle.flow_shares.specs.meetings.Met.{met_whole}
use Rattle.flow_shares.proofs.meetings.theorems.met_is_in_order.Goals as goal

pub returns-clause-whole : goal.returns-clause-whole
returns-clause-whole c = met_whole
