use Rattle.flow_shares.proofs.OfMeetings.Calm.{stuck_shares_rest}
use Rattle.flow_shares.proofs.meetings.theorems.stuck_shares_rest.Goals as goal

pub returns : goal.returns
returns g c = stuck_shares_rest g.T.Transducer
