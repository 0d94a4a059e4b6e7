use Rattle.flow_shares.proofs.OfMeetings.Calm.{a_calm_round_leads_to_rest}
use Rattle.flow_shares.proofs.meetings.theorems.a_calm_round_leads_to_rest.Goals as goal

pub returns : goal.returns
returns g c = a_calm_round_leads_to_rest g.T.Transducer
