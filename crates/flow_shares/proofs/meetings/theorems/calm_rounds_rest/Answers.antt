use Rattle.flow_shares.proofs.OfMeetings.Calm.{calm_rounds_rest}
use Rattle.flow_shares.proofs.meetings.theorems.calm_rounds_rest.Goals as goal

pub returns : goal.returns
returns g c = calm_rounds_rest g.T.Transducer
