use Rattle.flow_shares.proofs.OfMeetings.Refused.{none_given}
use Rattle.flow_shares.proofs.meetings.gathering.split.Goals as goal

pub returns-in_err-lists : goal.returns-in_err-lists
returns-in_err-lists g c = record { nodes = none_given _ c.from_residual.result c.from_residual.ensures.0; ends = none_given _ c.from_residual.result c.from_residual.ensures.0 }

pub returns-in_err-ends : goal.returns-in_err-ends
returns-in_err-ends g c =
    record {
      nodes = none_given _ c.from_residual-in_err-ends.result c.from_residual-in_err-ends.ensures.0;
      ends =
          none_given _ c.from_residual-in_err-ends.result c.from_residual-in_err-ends.ensures.0;
    }
