use Rattle.std.proofs.Common.{◌∙◌, ◌-◌, ap, sym, length}
use Rattle.snesl_data.specs.Types.{ty_of}
use Rattle.std.specs.List.{slice_get}
use Rattle.flow_values.proofs.Printing.{wants_read, wants_fault}
use Rattle.flow_values.proofs.print.PrintTransducer.want.Goals as goal

pub returns-then-port-len : goal.returns-then-port-len
returns-then-port-len c =
    let self = c.args.self.now in
    wants_read (ty_of self.ty) self.pending.items self.text.items self.closing self.stuck self.at c.in-Some.pending.now c.len.result c.port-port.result c.if-self.false
    (ap (λ l. slice_get l (length l - 1)) (sym c.deref.ensures.value) ∙ sym c.in-Some.ensures.value)
    (c.len.ensures ∙ self.kinds.ok.0 ∙ ap length self.edges) c.port-port.ensures c.if-port-len.true

pub returns-else-port-len : goal.returns-else-port-len
returns-else-port-len c =
    let self = c.args.self.now in
    c.fault-else-port-len.ensures
    ∙ wants_fault (ty_of self.ty) self.pending.items self.text.items self.closing self.stuck self.at c.in-Some.pending.now c.len.result c.port-port.result c.if-self.false
    (ap (λ l. slice_get l (length l - 1)) (sym c.deref.ensures.value) ∙ sym c.in-Some.ensures.value)
    (c.len.ensures ∙ self.kinds.ok.0 ∙ ap length self.edges) c.port-port.ensures c.if-port-len.false
