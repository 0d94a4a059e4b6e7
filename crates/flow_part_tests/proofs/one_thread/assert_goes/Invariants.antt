use Rattle.flow_rings.specs.Edge.{IsEdge, kind_of}
use Rattle.flow_part_tests.specs.Ints.{TakesInts}
use Rattle.flow_part_tests.proofs.one_thread.assert_goes.Given as goal

abbrev pub invariant-loop-number : goal.invariant-loop-number
invariant-loop-number g l = record { edge : IsEdge l.writer l.reader; ints : TakesInts (kind_of l.writer) }
