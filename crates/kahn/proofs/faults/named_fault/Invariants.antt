use Rattle.std.proofs.Common.{◌≡◌, [], take, MatchOption}
use Rattle.kahn.specs.Faults.{IsNamedOf}
use Rattle.kahn.proofs.faults.named_fault.Given as goal

-- what is named of the faults so far
abbrev pub invariant-loop-fault : goal.invariant-loop-fault
invariant-loop-fault l = let seen = take l.fault-index l.faults in MatchOption l.first (seen ≡ []) (λ f. IsNamedOf seen f)
