use Rattle.std.proofs.Common.{List, ◌++◌, ◌∷◌, [], map, ap, subst, ◌∙◌}
use Rattle.flow_nodes.specs.plans.Plans.{the_check}
use Rattle.snesl_grammar.specs.declared.tree.operator.Builtin.TheVariants.{The}
use Rattle.snesl_translation.specs.Makings.{tested}
use Rattle.snesl_translation.specs.Wires.{item_wires, stream_of}
use Rattle.snesl_translation.specs.Translation.{call_streams}
use Rattle.snesl_translator.specs.steps.Views.{dialect_of_steps, next_in, wires_of}
use Rattle.snesl_translator.specs.steps.Added.{Adds}
use Rattle.snesl_translator.specs.declared.steps.wires.Wires.{Wires}
use Rattle.snesl_translator.proofs.OfSteps.Adding.{exits_first}
use Rattle.snesl_translator.proofs.Adding.{then_adds}
use Rattle.snesl_translator.proofs.forms.one_of.Goals as goal

pub returns-in_err-both : goal.returns-in_err-both
returns-in_err-both c =
    exits_first wires_of wires_of c.args.steps.now c.append.new.steps c.append.new.steps _
    (λ w k. tested c.args.at the_check (stream_of w ∷ []) (item_wires w) k) c.in_err-both.field-0.0 c.from_residual.result c.from_residual.ensures
    c.in_err-both.ensures

pub returns : goal.returns
returns c =
    let s = c.append.new.steps in
    let call = λ (l : List Wires). call_streams (dialect_of_steps s) c.args.at The (map wires_of l) (next_in s) in
    let one = c.deref.ensures.value ∙ c.in_ok-push.ensures.items ∙ ap (λ l. l ++ c.in_ok-both.both ∷ []) c.new-arguments.ensures.items in
    then_adds wires_of c.apply_built_in.new.steps (λ dialect w k. tested c.args.at the_check (stream_of w ∷ []) (item_wires w) k) c.apply_built_in.result c.in_ok-both.ensures
    (subst (λ (l : List Wires). Adds wires_of s c.apply_built_in.new.steps (call l) c.apply_built_in.result) one c.apply_built_in.ensures)
