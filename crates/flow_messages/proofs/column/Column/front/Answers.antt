use Rattle.std.proofs.Common.{arith}
use Rattle.std.specs.VecDeque.{deque_len}
use Rattle.flow_messages.proofs.Contents.{first_is}
use Rattle.flow_messages.proofs.Tables.{seen}
use Rattle.flow_messages.proofs.column.Column.front.Goals as goal

pub returns-in-Vectors : goal.returns-in-Vectors
returns-in-Vectors c =
    rw c.in-Vectors.is
    (seen _ _ c.front.result (deque_len c.in-Vectors.queue) c.front.ensures.variant (λ m some is. first_is c.in-Vectors.queue.items m.now (omega (arith, some)) is) c.front.ensures.lookup)
