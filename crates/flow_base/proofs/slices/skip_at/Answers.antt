use Rattle.std.proofs.Common.{◌≡◌, take, sym, subst, arith}
use Rattle.flow_messages.specs.Ends.{TakenAll}
use Rattle.flow_base.specs.Visits.{edge_of}
use Rattle.flow_base.proofs.OverSlices.{took_nothing}
use Rattle.flow_base.proofs.slices.skip_at.Goals as goal

-- it took nothing
pub returns-else-count-gt0-clause-taken : goal.returns-else-count-gt0-clause-taken
returns-else-count-gt0-clause-taken g c =
    let v = g.E.Ends.view c.args.ends.now in
    let e = edge_of c.args.inputs.now c.args.port in
    let none : c.args.count ≡ 0 = omega (arith, c.if-count-gt0.false) in
    subst (λ k. TakenAll v e (take k (v.coming e)) v) (sym none) (took_nothing v e)
