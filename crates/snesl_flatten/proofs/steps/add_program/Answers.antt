use Rattle.std.proofs.Common.{◌∙◌, ap, subst, Ok, Vec}
use Rattle.std.specs.Global.{Global}
use Rattle.snesl_values.specs.Inputs.{declared}
use Rattle.snesl_grammar.specs.tree.View.{tree_of}
use Rattle.snesl_grammar.specs.declared.program.Program.{Program}
use Rattle.snesl_types.specs.Typed.{program_of, typed_inputs}
use Rattle.snesl_translation.specs.Programs.{first_offset}
use Rattle.snesl_translator.specs.declared.steps.wires.Binding.{Binding}
use Rattle.snesl_translator.specs.steps.Views.{bindings_of, wires_of}
use Rattle.snesl_translator.specs.steps.Added.{HasMade, Adds}
use Rattle.snesl_translator.proofs.OfSteps.Adding.{exits}
use Rattle.snesl_translator.specs.declared.translator.ProgramContext.{ProgramContext}
use Rattle.snesl_flatten.specs.Behind.{printed}
use Rattle.snesl_flatten.proofs.Adding.{control_refused, inputs_refused, program_added}
use Rattle.snesl_flatten.proofs.steps.add_program.Goals as goal

pub returns-in_err-control : goal.returns-in_err-control
returns-in_err-control c =
    let typed = c.args.typed.now in
    control_refused c.args.steps.now (program_of typed) (typed_inputs typed) c.requires.next c.first_offset-at.result
    (c.first_offset-at.ensures ∙ ap (λ (p : Program). first_offset (tree_of p.expr)) c.program-program.ensures) c.args.steps.now
    c.control.new.self c.in_err-control.field-0.0 c.from_residual.result c.from_residual.ensures c.in_err-control.ensures

pub returns-in_err-inputs : goal.returns-in_err-inputs
returns-in_err-inputs c =
    let typed = c.args.typed.now in
    inputs_refused c.args.steps.now (program_of typed) (typed_inputs typed) c.requires.next c.first_offset-at.result
    (c.first_offset-at.ensures ∙ ap (λ (p : Program). first_offset (tree_of p.expr)) c.program-program.ensures) c.args.steps.now
    (λ (bindings : Vec Binding Global). bindings_of bindings.items) c.control.new.self c.bind_inputs.new.steps c.in_ok-control.control (declared c.decls.result.now) c.decls.ensures
    c.in_err-inputs.field-0.0 c.from_residual-in_err-inputs.result c.from_residual-in_err-inputs.ensures c.in_ok-control.ensures c.in_err-inputs.ensures

pub returns-in_err-wires : goal.returns-in_err-wires
returns-in_err-wires c =
    let typed = c.args.typed.now in
    let is = c.program-program.ensures in
    let context : ProgramContext = record { text = c.deref.result; functions = c.deref-2.result } in
    let e = c.in_err-wires.field-0.0 in
    program_added c.args.steps.now (program_of typed) (typed_inputs typed) c.requires.next c.first_offset-at.result
    (c.first_offset-at.ensures ∙ ap (λ (p : Program). first_offset (tree_of p.expr)) is) c.args.steps.now
    c.control.new.self c.bind_inputs.new.steps c.print_value.new.steps c.in_ok-control.control (declared c.decls.result.now)
    (bindings_of c.in_ok-inputs.inputs.items) (bindings_of c.deref-3.result.now) context
    c.from_residual-in_err-wires.result c.decls.ensures (ap bindings_of c.deref-3.ensures.value) c.requires.dialect
    (c.deref.ensures.value ∙ ap (λ (p : Program). p.text.items) is) (c.deref-2.ensures.value ∙ ap (λ (p : Program). p.declarations.items) is)
    c.in_ok-control.ensures c.in_ok-inputs.ensures
    (subst (λ (p : Program). Adds wires_of c.bind_inputs.new.steps c.print_value.new.steps
    (printed c.bind_inputs.new.steps c.first_offset-at.result context (tree_of p.expr) (bindings_of c.deref-3.result.now) c.in_ok-control.control)
    c.from_residual-in_err-wires.result) is
    (exits wires_of c.bind_inputs.new.steps c.print_value.new.steps
    (printed c.bind_inputs.new.steps c.first_offset-at.result context (tree_of c.program-program.result.now.expr) (bindings_of c.deref-3.result.now)
    c.in_ok-control.control) e c.from_residual-in_err-wires.result
    c.from_residual-in_err-wires.ensures c.in_err-wires.ensures))

pub returns : goal.returns
returns c =
    let typed = c.args.typed.now in
    let is = c.program-program.ensures in
    let context : ProgramContext = record { text = c.deref.result; functions = c.deref-2.result } in
    program_added c.args.steps.now (program_of typed) (typed_inputs typed) c.requires.next c.first_offset-at.result
    (c.first_offset-at.ensures ∙ ap (λ (p : Program). first_offset (tree_of p.expr)) is) c.args.steps.now
    c.control.new.self c.bind_inputs.new.steps c.print_value.new.steps c.in_ok-control.control (declared c.decls.result.now)
    (bindings_of c.in_ok-inputs.inputs.items) (bindings_of c.deref-3.result.now) context
    (Ok c.in_ok-wires.wires) c.decls.ensures (ap bindings_of c.deref-3.ensures.value) c.requires.dialect
    (c.deref.ensures.value ∙ ap (λ (p : Program). p.text.items) is) (c.deref-2.ensures.value ∙ ap (λ (p : Program). p.declarations.items) is)
    c.in_ok-control.ensures c.in_ok-inputs.ensures
    (subst (λ (p : Program). HasMade c.bind_inputs.new.steps c.print_value.new.steps
    (printed c.bind_inputs.new.steps c.first_offset-at.result context (tree_of p.expr) (bindings_of c.deref-3.result.now) c.in_ok-control.control)
    (wires_of c.in_ok-wires.wires)) is
    c.in_ok-wires.ensures)
