use Rattle.std.specs.Prelude.{◌≡◌, ◌++◌, take}
use Rattle.std.specs.VecDeque.{deque_capacity}
use Rattle.flow_messages.proofs.int_run.queue_all.Given as goal

abbrev pub invariant-loop-number : goal.invariant-loop-number
invariant-loop-number l = record {
  items : l.queue.items ≡ l.fn.queue.items ++ take l.number-index l.numbers;
  capacity : deque_capacity l.queue ≡ deque_capacity l.fn.queue;
}
