use Rattle.std.proofs.Common.{[], ◌∷◌, ◌++◌, ◌^◌, ◌-◌, ◌<◌, sym, ap, ◌∙◌, arith}
use Rattle.std.specs.Prelude.{IsOk}
use Rattle.flow_rings.specs.Edge.{sent}
use Rattle.flow_edges.proofs.OfLanes.Owing.{owes_none, ok_holds}
use Rattle.flow_edges.proofs.lanes.taking.tell.Goals as goal

pub returns-then-is_ok-clause-owes : goal.returns-then-is_ok-clause-owes
returns-then-is_ok-clause-owes c =
    let few : c.args.owed < 2 ^ 64 - 1 = omega (arith, c.ranges.owed.fits, c.if-owed-eq18446744073709551615.false) in
    let is : IsOk c.put.result = sym c.if-is_ok.ensures.value in
    let grown = (ok_holds c.put.result is c.put.ensures.ok).0 ∙ ap (λ m. sent c.args.back.now ++ m ∷ []) c.saying.ensures in
    λ taken o. owes_none taken c.args.owed c.args.back.now c.put.new.self few c.put.ensures.same grown o
