use Rattle.std.proofs.Common.{◌≡◌}
use Rattle.std.specs.Io.Iter.{u64_saturate}
use Rattle.kahn.specs.Basics.{total}
use Rattle.snesl_flatten.specs.network.NodesAtRest.{final_view}
use Rattle.snesl_size.specs.Tables.{count_over}
use Rattle.snesl_size.proofs.table.messages.Given as goal

abbrev pub invariant-loop-edge : goal.invariant-loop-edge
invariant-loop-edge l = l.sum ≡ u64_saturate (total (count_over (final_view l.fn.rested)) l.edge)
