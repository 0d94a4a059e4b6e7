use Rattle.std.proofs.Common.{◌≡◌, ◌++◌}
use Rattle.flow_rings.specs.Edge.{sent, SameWriter}
use Rattle.flow_rings.proofs.crossing.across.put_all.Given as goal

abbrev pub invariant-loop-message : goal.invariant-loop-message
invariant-loop-message g l =
    SameWriter l.initial.writer l.writer × (sent l.writer ++ l.message-iterator.rest.items ≡ l.fn.messages.items)
