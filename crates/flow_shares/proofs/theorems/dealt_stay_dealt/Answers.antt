use Rattle.std.proofs.Common.{refl}
use Rattle.flow_shares.proofs.Stays.{stay_dealt}
use Rattle.flow_shares.proofs.theorems.dealt_stay_dealt.Goals as goal

pub returns : goal.returns
returns g c share dealt later was same = (stay_dealt share c.args.nodes.now dealt later was same, refl)
