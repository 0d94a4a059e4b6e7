use Rattle.std.proofs.Common.{◌++◌, ◌+◌, map, drop, sym, ap, ◌∙◌, arith, append-nil}
use Rattle.snesl_grammar.specs.declared.tree.declaration.Typing.{Typing}
use Rattle.snesl_grammar.specs.declared.tree.span.Span.{Span}
use Rattle.snesl_grammar.specs.tree.Spelling.{spelling}
use Rattle.snesl_grammar.specs.tree.View.{typed_of}
use Rattle.snesl_translation.specs.Functions.{parameters_bound}
use Rattle.snesl_translator.specs.steps.Views.{bindings_of, wires_of}
use Rattle.snesl_translator.proofs.Bindings.{bound_more, parameter_bound, parameters_end}
use Rattle.snesl_translator.proofs.frames.bind_parameters.Goals as goal

pub loop-index-preserved : goal.loop-index-preserved
loop-index-preserved c =
    let text = c.args.text.now in
    let parameters = c.args.parameters.now in
    let arguments = c.args.arguments.now in
    let i = c.loop-index.index in
    let parameter = c.index-parameters-index.result in
    let argument = c.index-arguments-index.result in
    let before = c.loop-index.frame.items in
    let others = parameters_bound text (map typed_of (drop (i + 1) parameters)) (map wires_of (drop (i + 1) arguments)) in
    c.loop-index.invariant
    ∙ ap (λ l. bindings_of before ++ l)
    (parameter_bound text parameters arguments i parameter argument (omega (arith, c.loop-index-test.true, c.min-number.ensures))
    (omega (arith, c.loop-index-test.true, c.min-number.ensures)) c.index-parameters-index.is c.index-arguments-index.is)
    ∙ bound_more before c.push.new.self.items (record { name = c.spelled-name.result; wires = c.in_ok-wires.wires }) _ others c.in_ok-push.ensures.items
    (ap (λ (place : Span). (spelling text place, wires_of argument)) (ap (λ (p : Typing). p.name) c.index-parameters-index.is)
    ∙ ap (λ name. (name, wires_of argument)) (sym c.spelled-name.ensures) ∙ ap (λ u. (c.spelled-name.result.now, u)) (sym c.in_ok-wires.ensures))

pub returns : goal.returns
returns c =
    let text = c.args.text.now in
    let before = c.loop-index.frame.items in
    sym (c.loop-index.invariant
    ∙ ap (λ l. bindings_of before ++ l)
    (parameters_end text c.args.parameters.now c.args.arguments.now c.loop-index.index
    (omega (arith, c.loop-index-test.false, c.loop-index.auto.index-end, c.min-number.ensures)))
    ∙ append-nil (bindings_of before))
