use Rattle.std.proofs.Common.{◌≡◌, ◌∙◌, true, [], ◌∷◌, ◌++◌, ap, map, refl, subst, Err}
use Rattle.snesl_data.specs.Types.{ty_of}
use Rattle.snesl_data.specs.Values.{value_of, values_of}
use Rattle.snesl_data.specs.Builders.{built_in}
use Rattle.flow_messages.specs.Cells.{cell_of}
use Rattle.flow_values.specs.Shapes.{is_a, all_are}
use Rattle.flow_values.specs.Parts.{built}
use Rattle.flow_values.specs.TabMachine.{MakesDatum}
use Rattle.flow_values.proofs.Building.{all_there, refused_answer, stopped_answer}
use Rattle.flow_values.proofs.Known.{made_is, one_more_are}
use Rattle.flow_values.proofs.Layings.{on_ok}
use Rattle.flow_values.proofs.tab.Tab.close.Goals as goal

pub returns-in_err-copy_items-clause-state : goal.returns-in_err-copy_items-clause-state
returns-in_err-copy_items-clause-state c =
    let self = c.args.self.now in
    let there = all_there (ty_of self.element) self.items.items self.kinds.items c.len.result c.len-2.result (c.len.ensures ∙ self.items.ok.0)
    (c.len-2.ensures ∙ self.kinds.ok.0) self.kinds_are c.if-len.false in
    refused_answer (ty_of self.element) (built_in self.elements) (map cell_of self.items.items) self.items_fit there _ _ refl c.from_residual.result c.from_residual.ensures.1

pub returns-in_err-datum-clause-state : goal.returns-in_err-datum-clause-state
returns-in_err-datum-clause-state c =
    let self = c.args.self.now in
    let there = all_there (ty_of self.element) self.items.items self.kinds.items c.len.result c.len-2.result (c.len.ensures ∙ self.items.ok.0)
    (c.len-2.ensures ∙ self.kinds.ok.0) self.kinds_are c.if-len.false in
    let stop = c.in_err-datum.field-0.0 in
    let copied : map cell_of c.copy_items.new.copies.items ≡ map cell_of self.items.items = c.in_ok-copy_items.ensures ∙ ap (map cell_of) c.deref.ensures.value in
    let made : MakesDatum (built (ty_of self.element) (map cell_of self.items.items)) (Err stop) c.build.new.items.items =
    subst (λ l. MakesDatum (built (ty_of self.element) l) (Err stop) c.build.new.items.items) copied c.in_err-datum.ensures in
    stopped_answer (ty_of self.element) (built_in self.elements) (map cell_of self.items.items) self.items_fit there _ _ refl
    c.from_residual-in_err-datum.result stop c.build.new.items.items made c.from_residual-in_err-datum.ensures.1

pub invariant_of-self-2 : goal.invariant_of-self-2
invariant_of-self-2 c =
    let self = c.args.self.now in
    let item = ty_of self.element in
    let datum = c.in_ok-datum.datum in
    let pushed : built_in c.push.new.self ≡ built_in self.elements ++ value_of datum ∷ [] = on_ok c.push.result c.if-is_err.ensures.negation c.push.ensures.ok in
    let is : is_a item (value_of datum) ≡ true = made_is item (map cell_of c.copy_items.new.copies.items) datum c.build.new.items.items c.in_ok-datum.ensures in
    record {
      kinds_are = self.kinds_are;
      items_fit = self.items_fit;
      elements_are = ap (λ es. all_are item (values_of es)) pushed ∙ one_more_are item (built_in self.elements) (value_of datum) self.elements_are is;
    }
