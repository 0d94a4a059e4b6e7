use Rattle.std.proofs.Common.{◌≡◌, length}
use Rattle.flow_dealing.proofs.cut.cut.improved.Given as goal

abbrev pub invariant-loop-s : goal.invariant-loop-s
invariant-loop-s l = length l.loads.items ≡ l.s
