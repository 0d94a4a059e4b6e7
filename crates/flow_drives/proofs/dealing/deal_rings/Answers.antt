use Rattle.flow_shares.specs.meetings.RingMeetings.{RingsJoin, ring_slots}
use Rattle.flow_drives.proofs.OfLoops.EpochBegins.{dealt_graph}
use Rattle.flow_drives.specs.Configs.{IsLawful}
use Rattle.flow_drives.proofs.Refused.{passed_on, passed_made}
use Rattle.flow_drives.proofs.Dealt.{are_dealt_out, are_fed}
use Rattle.flow_drives.proofs.dealing.deal_rings.Goals as goal

pub returns-in_err-dealt-clause-config : goal.returns-in_err-dealt-clause-config
returns-in_err-dealt-clause-config g c = passed_on c.in_err-dealt.field-0.0 c.from_residual.result (IsLawful c.args.config.now) c.from_residual.ensures.1 c.in_err-dealt.ensures.config

pub returns-clause-config : goal.returns-clause-config
returns-clause-config g c = passed_made c.in_ok-dealt.dealt c.in_ok-dealt.dealt.shares (IsLawful c.args.config.now) c.in_ok-dealt.ensures.config

pub returns-clause-dealt : goal.returns-clause-dealt
returns-clause-dealt g c = are_dealt_out RingsJoin ring_slots c.args.graph c.args.config.now c.in_ok-dealt.dealt c.in_ok-dealt.ensures.dealt c.in_ok-dealt.ensures.lawful

pub returns-clause-graph : goal.returns-clause-graph
returns-clause-graph g c =
    let config = c.args.config.now in
    dealt_graph c.args.graph config.threads config.share.items config.capacity c.in_ok-dealt.dealt c.in_ok-dealt.ensures.dealt

pub returns-clause-fed : goal.returns-clause-fed
returns-clause-fed g c = are_fed RingsJoin ring_slots c.args.graph c.args.config.now c.in_ok-dealt.dealt c.in_ok-dealt.ensures.dealt
