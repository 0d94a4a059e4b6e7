use Rattle.flow_shares.proofs.OfMeetings.Carried.{carrying_keeps_the_configuration}
use Rattle.flow_shares.proofs.meetings.theorems.carrying_keeps_the_configuration.Goals as goal

pub returns : goal.returns
returns g c = carrying_keeps_the_configuration g.T.Transducer
