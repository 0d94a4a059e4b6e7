use Rattle.flow_shares.proofs.OfMeetings.Rounds.{a_round_is_a_run}
use Rattle.flow_shares.proofs.meetings.theorems.a_round_is_a_run.Goals as goal

pub returns : goal.returns
returns g c = a_round_is_a_run g.T.Transducer g.met.T.Transducer.laws
