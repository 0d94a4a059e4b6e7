use Rattle.std.proofs.Common.{◌≡◌, [], take}
use Rattle.kahn.specs.Faults.{IsNamedOf}
use Rattle.kahn.proofs.NamedFaults.{named_along, named_at_first}
use Rattle.kahn.proofs.faults.named_fault.Goals as goal
use Rattle.kahn.proofs.faults.named_fault.Goals.{in-None, in-Some}

pub loop-fault-preserved : goal.loop-fault-preserved
loop-fault-preserved c =
    elim c.match-first.branch [
      | in-None w ↦
          let none : take c.loop-fault.fault-index c.args.faults.now ≡ [] = rw w.in-None.is at c.loop-fault.invariant in
          rw w.first-is (named_at_first c.args.faults.now c.loop-fault.fault-index _ c.loop-fault-test.true none)
      | in-Some w ↦
          let of_seen : IsNamedOf (take c.loop-fault.fault-index c.args.faults.now) w.in-Some.other = rw w.in-Some.is at c.loop-fault.invariant in
          rw w.first-is (named_along c.args.faults.now c.loop-fault.fault-index _ w.in-Some.other w.named.result c.loop-fault-test.true of_seen w.named.ensures)
    ]
