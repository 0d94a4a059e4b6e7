use Rattle.std.proofs.Common.{◌∙◌, sym, ap, subst, map}
use Rattle.snesl_data.specs.Types.{Ty, ty_of}
use Rattle.snesl_data.specs.Builders.{built_in}
use Rattle.flow_messages.specs.Cells.{cell_of}
use Rattle.flow_base.specs.Workers.{Takes}
use Rattle.flow_base.specs.Machines.{state_after_read, with_parameters}
use Rattle.flow_values.specs.TabMachine.{TabState, tab_state, tab_move}
use Rattle.flow_values.proofs.Building.{item_taken}
use Rattle.flow_values.proofs.tab.TabWorker.take.Goals as goal

pub returns-in-Item-clause-takes : goal.returns-in-Item-clause-takes
returns-in-Item-clause-takes c =
    let self = c.args.self.now in
    let ty = ty_of self.element in
    let es = built_in self.elements in
    let got = map cell_of self.items.items in
    let x = cell_of c.args.item in
    let new = c.take_item.new.self in
    let after : Ty × TabState = (ty_of new.element, tab_state new.stage (built_in new.elements) (map cell_of new.items.items)) in
    subst (λ r. Takes r (ty, tab_state self.stage es got) c.take_item.result after)
    (ap (with_parameters ty) (item_taken ty es got x)
    ∙ sym (ap (λ s. with_parameters ty (state_after_read (tab_move ty (tab_state s es got)) x)) c.in-Item.is)) c.take_item.ensures
