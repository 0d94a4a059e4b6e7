use Rattle.std.proofs.Common.{refl}
use Rattle.flow_shares.proofs.Stays.{as_given}
use Rattle.flow_shares.proofs.theorems.just_dealt_are_dealt.Goals as goal

pub returns : goal.returns
returns g c share dealt was = (as_given share c.args.nodes.now dealt was, refl)
