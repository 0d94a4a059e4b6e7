use Rattle.std.proofs.Common.{◌∙◌, ◌-◌, ap, sym, length}
use Rattle.snesl_data.specs.Types.{ty_of}
use Rattle.std.specs.List.{slice_get}
use Rattle.flow_messages.specs.Cells.{cell_of, is_of}
use Rattle.flow_values.specs.Shapes.{kinds_of, kind_at}
use Rattle.flow_values.proofs.Printing.{found_ahead, found_none}
use Rattle.flow_values.proofs.print.Print.ahead.Goals as goal

pub returns-then-fits : goal.returns-then-fits
returns-then-fits c =
    let self = c.args.self.now in
    found_ahead (ty_of self.ty) self.pending.items self.text.items self.closing self.stuck self.at c.in-Some.pending.now c.requires
    (ap (λ l. slice_get l (length l - 1)) (sym c.deref.ensures.value) ∙ sym c.in-Some.ensures.value)
    (cell_of c.args.item.now)
    (ap (λ p. is_of (kind_at (kinds_of (ty_of self.ty)) p) (cell_of c.args.item.now)) (sym c.port.ensures)
    ∙ ap (λ k. is_of k (cell_of c.args.item.now)) (sym c.kind_in.ensures) ∙ sym c.if-fits.ensures)
    c.after.result c.after.ensures

pub returns-else-fits : goal.returns-else-fits
returns-else-fits c =
    let self = c.args.self.now in
    found_none (ty_of self.ty) self.pending.items self.text.items self.closing self.stuck self.at c.in-Some.pending.now c.requires
    (ap (λ l. slice_get l (length l - 1)) (sym c.deref.ensures.value) ∙ sym c.in-Some.ensures.value)
    (cell_of c.args.item.now)
    (ap (λ p. is_of (kind_at (kinds_of (ty_of self.ty)) p) (cell_of c.args.item.now)) (sym c.port.ensures)
    ∙ ap (λ k. is_of k (cell_of c.args.item.now)) (sym c.kind_in.ensures) ∙ sym c.if-fits.ensures)
