use Rattle.std.proofs.Common.{subst}
use Rattle.flow_shares.specs.meetings.Deals.{IsDealt}
use Rattle.flow_drives.specs.Configs.{IsLawful}
use Rattle.flow_drives.specs.declared.driver.DriveError.TheVariants.{NoMemory}
use Rattle.flow_drives.proofs.Refused.{refused_else, made_lawful}
use Rattle.flow_drives.proofs.dealing.dealt_out.Goals as goal

pub returns-in_err-dealt-clause-config : goal.returns-in_err-dealt-clause-config
returns-in_err-dealt-clause-config g c = refused_else c.from_residual.result NoMemory (IsLawful c.args.config.now) (c.lawful.ensures.0 c.if-not-lawful.false) c.from_residual.ensures.1 (λ is. cc)

pub returns-clause-config : goal.returns-clause-config
returns-clause-config g c = made_lawful c.in_ok-dealt.dealt (IsLawful c.args.config.now) (c.lawful.ensures.0 c.if-not-lawful.false)

pub returns-clause-dealt : goal.returns-clause-dealt
returns-clause-dealt g c =
    let config = c.args.config.now in
    subst (λ share. IsDealt g.E.Meeting.joins g.E.Meeting.slots c.args.graph config.threads share config.capacity c.in_ok-dealt.dealt) c.deref.ensures.value c.in_ok-dealt.ensures
