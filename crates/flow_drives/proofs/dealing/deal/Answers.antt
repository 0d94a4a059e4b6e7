use Rattle.flow_shares.specs.meetings.BoxMeetings.{BoxesJoin, box_slots}
use Rattle.flow_drives.specs.Configs.{IsLawful}
use Rattle.flow_drives.proofs.Refused.{passed_on, passed_made}
use Rattle.flow_drives.proofs.Dealt.{are_dealt_out, are_fed}
use Rattle.flow_drives.proofs.dealing.deal.Goals as goal

pub returns-in_err-dealt-clause-config : goal.returns-in_err-dealt-clause-config
returns-in_err-dealt-clause-config g c = passed_on c.in_err-dealt.field-0.0 c.from_residual.result (IsLawful c.args.config.now) c.from_residual.ensures.1 c.in_err-dealt.ensures.config

pub returns-clause-config : goal.returns-clause-config
returns-clause-config g c = passed_made c.in_ok-dealt.dealt c.in_ok-dealt.dealt.shares (IsLawful c.args.config.now) c.in_ok-dealt.ensures.config

pub returns-clause-dealt : goal.returns-clause-dealt
returns-clause-dealt g c = are_dealt_out BoxesJoin box_slots c.args.graph c.args.config.now c.in_ok-dealt.dealt c.in_ok-dealt.ensures.dealt c.in_ok-dealt.ensures.lawful

pub returns-clause-fed : goal.returns-clause-fed
returns-clause-fed g c = are_fed BoxesJoin box_slots c.args.graph c.args.config.now c.in_ok-dealt.dealt c.in_ok-dealt.ensures.dealt
