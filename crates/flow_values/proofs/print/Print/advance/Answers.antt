use Rattle.std.proofs.Common.{◌++◌, ◌-◌, ◌∙◌, ap, take, length}
use Rattle.snesl_data.specs.Types.{ty_of}
use Rattle.flow_values.proofs.Printing.{advanced}
use Rattle.flow_values.proofs.print.Print.advance.Goals as goal

pub returns-clause-ok : goal.returns-clause-ok
returns-clause-ok c =
    let self = c.args.self.now in
    let room = c.reserve.new.self in
    advanced (ty_of self.ty) self.text.items c.args.ahead.text.items c.extend_from_slice.new.self.items self.at self.stuck self.pending.items
    c.pop.new.self.items c.append.new.self.items c.args.ahead.pending.items c.requires
    (c.pop.ensures.rest ∙ ap (λ n. take (n - 1) room.items) room.ok.0 ∙ ap (λ l. take (length l - 1) l) c.in_ok-reserve.ensures.items)
    c.in_ok-append.ensures.items
    (c.in_ok-extend_from_slice.ensures.items ∙ ap (λ l. self.text.items ++ l) c.deref.ensures.value)
