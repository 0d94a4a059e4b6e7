use Rattle.std.proofs.Common.{◌≡◌, ◌==◌, ◌∙◌, [], true, false, length, ap, sym, subst}
use Rattle.snesl_data.specs.Types.{ty_of}
use Rattle.flow_messages.specs.Cells.{cell_of}
use Rattle.flow_messages.specs.Signals.{signal_of}
use Rattle.flow_values.specs.PrintMachine.{read_at}
use Rattle.flow_values.specs.Aheads.{stack, stage_in, state_in, where_led}
use Rattle.flow_values.proofs.Printing.{not_stuck, none_ahead, end_inside, refused}
use Rattle.flow_values.proofs.print.PrintTransducer.give.Goals as goal

pub returns-in-Item-clause-sure : goal.returns-in-Item-clause-sure
returns-in-Item-clause-sure c memory =
    let self = c.args.self.now in
    let state = state_in (ty_of self.ty) self.pending.items self.text.items self.closing self.stuck self.at in
    let free = not_stuck (ty_of self.ty) self.pending.items self.text.items self.closing self.stuck self.at c.args._port c.requires in
    absurd (refused (where_led (stage_in self.stuck self.closing (stack self.pending.items [])) state (cell_of c.in-Item.item)) self.pending.items
    self.text.items c.in-Err-OutOfMemory.field-0 c.in-Err-OutOfMemory.field-0-is c.in-Err-OutOfMemory.ensures
    (none_ahead self.pending.items self.closing self.stuck free memory))

pub returns-then-not-is_empty-clause-ok : goal.returns-then-not-is_empty-clause-ok
returns-then-not-is_empty-clause-ok c =
    let self = c.args.self.now in
    let state = state_in (ty_of self.ty) self.pending.items self.text.items self.closing self.stuck self.at in
    subst (λ m. state_in (ty_of self.ty) self.pending.items self.text.items self.closing true self.at
    ≡ read_at (stage_in self.stuck self.closing (stack self.pending.items [])) state (signal_of m)) (sym c.in-End.is)
    (end_inside (ty_of self.ty) self.pending.items self.text.items self.closing self.stuck self.at
    (λ none. let never : false ≡ true = c.if-not-is_empty.ensures ∙ ap (λ n. n == 0) (self.pending.ok.0 ∙ ap length none) in absurd (cc)))
