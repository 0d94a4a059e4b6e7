use Rattle.std.proofs.Common.{◌≡◌}
use Rattle.flow_rings.specs.Edge.{sent, SameWriter}
use Rattle.flow_rings.proofs.crossing.across.put_waiting.Given as goal

abbrev pub invariant-loop : goal.invariant-loop
invariant-loop g l =
    SameWriter l.initial.writer l.writer × (sent l.writer ≡ sent l.initial.writer) × (l.message ≡ l.initial.message)
