use Rattle.std.proofs.Common.{◌+◌, ap, false}
use Rattle.flow_values.specs.PrintMachine.{whole, further}
use Rattle.flow_values.proofs.Printing.{two_next}
use Rattle.flow_values.proofs.ahead.Ahead.element.Goals as goal

pub returns-clause-pending : goal.returns-clause-pending
returns-clause-pending c =
    two_next c.add-2.result c.args.self.now.pending.items c.say.new.self.pending.items c.add.new.self.pending.items c.add-2.new.self.pending.items _ _ _ _
    c.say.ensures.pending
    c.in_ok-add.ensures.pending
    c.add-2.ensures.pending
    (ap (λ t. further t c.args.port c.args.brackets) c.in_ok-copy_ty.ensures)
    (ap (λ t. whole false t (c.args.port + 1) 0) c.in_ok-copy_ty-2.ensures)
