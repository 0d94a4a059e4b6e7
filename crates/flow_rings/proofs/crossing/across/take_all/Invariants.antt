use Rattle.std.proofs.Common.{◌≡◌, IfOk}
use Rattle.flow_rings.specs.Edge.{received, SameReader}
use Rattle.flow_rings.proofs.crossing.across.take_all.Given as goal

abbrev pub invariant-loop : goal.invariant-loop
invariant-loop g l =
    SameReader l.initial.reader l.reader × IfOk l.taken (λ v. v.items ≡ received l.reader)
