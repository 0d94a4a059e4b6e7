use Rattle.std.proofs.Common.{◌≡◌, ◌++◌, false, take, drop}
use Rattle.rtrb.specs.Ring as port
use Rattle.rtrb.specs.Fifo.{Allowed}
use Rattle.flow_messages.specs.Signals.{signals, ended}
use Rattle.flow_boxes.specs.Coming.{HasCome}
use Rattle.flow_words.specs.Words.{ints_said, ints_sent, group_after}
use Rattle.flow_words.proofs.receiving.drain_ints.Given as goal

-- what was taken so far
abbrev pub invariant-loop : goal.invariant-loop
invariant-loop l = record {
  ring : port.SameConsumer l.fn.ring l.ring;
  taken : port.received l.ring ≡ port.received l.fn.ring ++ take l.counter (port.known_items l.fn.ring);
  known : port.known_items l.ring ≡ drop l.counter (port.known_items l.fn.ring);
  allowed : Allowed (λ xs _. ended (signals (ints_sent xs)) ≡ false) (port.received l.fn.ring) (take l.counter (port.known_items l.fn.ring));
  group : l.now ≡ group_after l.fn.group (take l.counter (port.known_items l.fn.ring));
  come : HasCome (ints_said l.fn.group (take l.counter (port.known_items l.fn.ring))) l.fn.inbox l.inbox;
}
