use Rattle.std.proofs.Common.{◌∙◌, ap, [], ◌∷◌, ◌++◌, map, if◌then◌else◌}
use Rattle.snesl_data.specs.Types.{ty_of}
use Rattle.snesl_data.specs.Builders.{built_in}
use Rattle.flow_messages.specs.Cells.{cell_of}
use Rattle.flow_values.specs.TabMachine.{tab_state}
use Rattle.flow_values.proofs.Building.{fits_after, parts_pushed, refused_item}
use Rattle.flow_values.proofs.tab.Tab.take_item.Goals as goal

pub invariant_of-self-2 : goal.invariant_of-self-2
invariant_of-self-2 c =
    let self = c.args.self.now in
    let next = fits_after (ty_of self.element) self.items.items c.args.item c.len.result (c.len.ensures ∙ self.items.ok.0) c.if-not-part_fits.ensures in
    record {
      kinds_are = self.kinds_are;
      elements_are = self.elements_are;
      items_fit =
          parts_pushed (ty_of self.element) self.items.items c.push.new.self.items c.args.item _ self.items_fit next c.push.ensures.items;
    }

pub returns-then-is_err : goal.returns-then-is_err
returns-then-is_err c =
    let self = c.args.self.now in
    let next = fits_after (ty_of self.element) self.items.items c.args.item c.len.result (c.len.ensures ∙ self.items.ok.0) c.if-not-part_fits.ensures in
    let kept = c.push.ensures.items ∙ ap (λ b. if b then (self.items.items ++ c.args.item ∷ []) else self.items.items) c.if-is_err.ensures.negation in
    refused_item (ty_of self.element) (built_in self.elements) (map cell_of self.items.items) (cell_of c.args.item) self.items_fit next _ _
    (ap (λ l. (ty_of self.element, tab_state self.stage (built_in self.elements) (map cell_of l))) kept)
