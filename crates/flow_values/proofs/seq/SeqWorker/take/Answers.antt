use Rattle.std.proofs.Common.{map}
use Rattle.snesl_data.specs.Types.{ty_of}
use Rattle.flow_messages.specs.Cells.{cell_of}
use Rattle.flow_values.specs.Dues.{due_cell}
use Rattle.flow_values.proofs.VectorSteps.{seq_takes}
use Rattle.flow_values.proofs.seq.SeqWorker.take.Goals as goal

pub returns-clause-takes : goal.returns-clause-takes
returns-clause-takes c =
    let self = c.args.self.now in
    seq_takes (ty_of self.element) (map due_cell self.dues.items) self.vector self.begun c.in_ok-all.all (cell_of c.args.item) c.requires c.in_ok-all.ensures.vector c.in_ok-all.ensures.of_type
