use Rattle.flow_messages.proofs.Contents.{ints_begin}
use Rattle.flow_messages.specs.IntRuns.{integers_in}
use Rattle.flow_messages.proofs.column.Column.shown.Goals as goal

pub returns-in-Ints-clause-first : goal.returns-in-Ints-clause-first
returns-in-Ints-clause-first c = rw c.in-Ints.is (ints_begin c.held-in-Ints.result.now (integers_in c.in-Ints.ints) c.held-in-Ints.ensures)
