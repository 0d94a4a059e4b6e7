use Rattle.snesl_grammar.specs.tree.View.{tree_of}
use Rattle.snesl_translator.specs.steps.Views.{bindings_of, wires_of}
use Rattle.snesl_flatten.proofs.Adding.{value_refused, print_refused, value_printed}
use Rattle.snesl_flatten.proofs.steps.print_value.Goals as goal

pub returns-in_err-wires : goal.returns-in_err-wires
returns-in_err-wires c =
    value_refused c.args.steps.now c.translate.new.steps c.translate.new.steps c.args.at c.args.context.now (tree_of c.args.expr.now) (bindings_of c.args.inputs.now) c.args.control
    c.in_err-wires.field-0.0 c.from_residual.result c.from_residual.ensures c.in_err-wires.ensures

pub returns-in_err-test : goal.returns-in_err-test
returns-in_err-test c =
    print_refused c.args.steps.now c.translate.new.steps c.test.new.self c.args.at c.args.context.now (tree_of c.args.expr.now) (bindings_of c.args.inputs.now) c.args.control
    (wires_of c.in_ok-wires.wires) _ c.in_ok-numbers.numbers.items c.in_ok-ty.ensures c.in_ok-numbers.ensures c.in_err-test.field-0.0 c.from_residual-in_err-test.result
    c.from_residual-in_err-test.ensures c.in_ok-wires.ensures c.in_err-test.ensures

pub returns : goal.returns
returns c =
    value_printed c.args.steps.now c.translate.new.steps c.test.new.self c.args.at c.args.context.now (tree_of c.args.expr.now) (bindings_of c.args.inputs.now) c.args.control
    c.in_ok-wires.wires _ c.in_ok-numbers.numbers.items _ c.in_ok-ty.ensures c.in_ok-numbers.ensures c.in_ok-wires.ensures c.in_ok-test.ensures
