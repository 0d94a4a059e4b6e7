use Rattle.std.proofs.Common.{◌≡◌}
use Rattle.std.specs.Prelude.{Some}
use Rattle.flow_rings.specs.Edge.{IsEdge, kind_of}
use Rattle.flow_part_tests.proofs.one_thread.assert_goes_in_blocks.Given as goal

abbrev pub invariant-loop-number : goal.invariant-loop-number
invariant-loop-number g l = record { edge : IsEdge l.writer l.reader; kind : kind_of l.writer ≡ Some l.kind }
