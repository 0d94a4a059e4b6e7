use Rattle.flow_shares.proofs.OfMeetings.Meetings.{a_meeting_is_sound}
use Rattle.flow_shares.proofs.meetings.theorems.a_meeting_is_sound.Goals as goal

pub returns : goal.returns
returns g c = a_meeting_is_sound g.T.Transducer
