use Rattle.flow_shares.proofs.OfMeetings.Meetings.{fresh_shares_start}
use Rattle.flow_shares.proofs.meetings.theorems.fresh_shares_start.Goals as goal

pub returns : goal.returns
returns g c = fresh_shares_start g.T.Transducer
