use Rattle.std.proofs.Common.{◌≡◌, ◌++◌, take, drop}
use Rattle.rtrb.specs.Ring as port
use Rattle.rtrb.specs.Fifo.{Allowed}
use Rattle.flow_boxes.specs.Coming.{HasCome}
use Rattle.flow_words.specs.Words.{each_said}
use Rattle.flow_words.proofs.receiving.drain_singles.Given as goal

-- what was taken so far
abbrev pub invariant-loop : goal.invariant-loop
invariant-loop g l = record {
  ring : port.SameConsumer l.fn.ring l.ring;
  taken : port.received l.ring ≡ port.received l.fn.ring ++ take l.counter (port.known_items l.fn.ring);
  known : port.known_items l.ring ≡ drop l.counter (port.known_items l.fn.ring);
  allowed : Allowed g.P.Protocol.allows (port.received l.fn.ring) (take l.counter (port.known_items l.fn.ring));
  come : HasCome (each_said g.W.Single.said (take l.counter (port.known_items l.fn.ring))) l.fn.inbox l.inbox;
}
