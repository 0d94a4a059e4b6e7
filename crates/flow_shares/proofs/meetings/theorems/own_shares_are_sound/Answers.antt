use Rattle.flow_shares.proofs.OfMeetings.Meetings.{own_shares_are_sound}
use Rattle.flow_shares.proofs.meetings.theorems.own_shares_are_sound.Goals as goal

pub returns : goal.returns
returns g c = own_shares_are_sound g.T.Transducer
