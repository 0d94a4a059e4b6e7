use Rattle.std.proofs.Common.{◌≡◌, ◌++◌, length}
use Rattle.std.specs.VecDeque.{deque_capacity}
use Rattle.flow_messages.proofs.column.move_all.Given as goal

-- what both hold, one after the other, is what both held
abbrev pub invariant-loop-message : goal.invariant-loop-message
invariant-loop-message l = record {
  moved : l.queue.items ++ l.more.items ≡ l.fn.queue.items ++ l.fn.more.items;
  capacity : deque_capacity l.queue ≡ deque_capacity l.fn.queue;
  other_capacity : deque_capacity l.more ≡ deque_capacity l.fn.more;
}

abbrev pub decreases-loop-message : goal.decreases-loop-message
decreases-loop-message l = length l.more.items
