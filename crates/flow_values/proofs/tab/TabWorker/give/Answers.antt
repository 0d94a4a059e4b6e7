use Rattle.std.proofs.Common.{◌≡◌, ◌∙◌, true, sym, ap, map}
use Rattle.snesl_data.specs.Values.{values_of, elements_of, a_vec}
use Rattle.snesl_data.specs.Builders.{built_in}
use Rattle.flow_values.specs.Shapes.{all_are, are_as_known}
use Rattle.flow_messages.specs.Cells.{cell_of, datum}
use Rattle.snesl_data.specs.Types.{ty_of}
use Rattle.flow_base.specs.Machines.{written_cell, state_after_write}
use Rattle.flow_values.specs.TabMachine.{tab_state, tab_move}
use Rattle.flow_values.specs.declared.tab.Stage.{Stage}
use Rattle.flow_values.proofs.tab.TabWorker.give.Goals as goal

pub of_known-requires : goal.of_known-requires
of_known-requires c =
    let self = c.args.self.now in
    let item = ty_of self.element in
    let vs = elements_of c.in-Ok.all in
    let are : all_are item vs ≡ true = ap (all_are item) (c.in-Ok.ensures.ok ∙ ap (λ b. values_of (built_in b)) c.replace-elements.ensures.value) ∙ self.elements_are in
    sym (ap (λ k. are_as_known k vs) c.in-Some.is) ∙ c.in_ok-of-in-End.ensures vs are

pub returns-in-Some-clause-ok : goal.returns-in-Some-clause-ok
returns-in-Some-clause-ok c =
    let self = c.args.self.now in
    let step = λ (stage : Stage). tab_state stage (built_in self.elements) (map cell_of self.items.items) in
    let ty = ty_of self.element in (
      c.of_known.ensures
          ∙ ap (λ vs. datum (a_vec vs)) c.in-Ok.ensures.ok
          ∙ ap (λ b. datum (a_vec (values_of (built_in b)))) c.replace-elements.ensures.value
          ∙ sym (ap (λ s. written_cell (tab_move ty (step s))) c.in-End.is),
      sym (ap (λ s. (ty, state_after_write (step s) (tab_move ty (step s)))) c.in-End.is),
    )

pub returns-in-None-clause-ok : goal.returns-in-None-clause-ok
returns-in-None-clause-ok c =
    let self = c.args.self.now in
    let step = λ (stage : Stage). tab_state stage (built_in self.elements) (map cell_of self.items.items) in
    let ty = ty_of self.element in (
      c.of_elements.ensures
          ∙ ap (λ vs. datum (a_vec vs)) c.in-Ok.ensures.ok
          ∙ ap (λ b. datum (a_vec (values_of (built_in b)))) c.replace-elements.ensures.value
          ∙ sym (ap (λ s. written_cell (tab_move ty (step s))) c.in-End.is),
      sym (ap (λ s. (ty, state_after_write (step s) (tab_move ty (step s)))) c.in-End.is),
    )
