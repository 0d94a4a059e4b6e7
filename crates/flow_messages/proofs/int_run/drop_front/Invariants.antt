use Rattle.std.specs.Prelude.{◌≡◌, drop}
use Rattle.std.specs.VecDeque.{deque_capacity}
use Rattle.flow_messages.proofs.int_run.drop_front.Given as goal

abbrev pub invariant-loop : goal.invariant-loop
invariant-loop g l = record {
  items : l.queue.items ≡ drop l.counter l.fn.queue.items;
  capacity : deque_capacity l.queue ≡ deque_capacity l.fn.queue;
}
