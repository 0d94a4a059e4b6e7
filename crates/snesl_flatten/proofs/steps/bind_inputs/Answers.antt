use Rattle.std.proofs.Common.{◌+◌, take, drop, Vec, sym, subst, subst₂, ◌∙◌, ap, arith}
use Rattle.std.specs.Global.{Global}
use Rattle.snesl_values.specs.Inputs.{declared, declaration_of}
use Rattle.snesl_translation.specs.Programs.{inputs_sourced, unset_cells}
use Rattle.snesl_translator.specs.declared.steps.wires.Binding.{Binding}
use Rattle.snesl_translator.specs.steps.Views.{bindings_of, next_in, wires_of}
use Rattle.snesl_translator.specs.steps.Added.{HasMade, Adds}
use Rattle.snesl_flatten.proofs.Binding.{one_more_bound, one_refused, declared_more, declared_split, bindings_more}
use Rattle.snesl_flatten.proofs.steps.bind_inputs.Goals as goal

pub returns-in_err-wires : goal.returns-in_err-wires
returns-in_err-wires c =
    let ds = c.args.declarations.now in
    let i = c.loop-declaration.declaration-index in
    let d = c.declaration-item.result in
    let view = λ (bindings : Vec Binding Global). bindings_of bindings.items in
    subst (λ l. Adds view c.args.steps.now c.input.new.self (inputs_sourced c.args.at unset_cells l (next_in c.args.steps.now))
    c.from_residual.result) (sym (declared_split ds i d (omega arith) c.declaration-item.is))
    (one_refused view c.args.steps.now c.loop-declaration.steps c.input.new.self c.args.at (declared (take i ds)) (declaration_of d)
    (declared (drop (i + 1) ds)) (bindings_of c.loop-declaration.bindings.items)
    c.in_err-wires.field-0.0 c.from_residual.result c.from_residual.ensures c.loop-declaration.invariant c.in_err-wires.ensures)

pub loop-declaration-preserved : goal.loop-declaration-preserved
loop-declaration-preserved c =
    let ds = c.args.declarations.now in
    let i = c.loop-declaration.declaration-index in
    let d = c.declaration-item.result in
    let new = c.input.new.self in
    let bound = bindings_of c.loop-declaration.bindings.items in
    let w = wires_of c.in_ok-wires.wires in
    let binding : Binding = record { name = c.as_slice-name.result; wires = c.in_ok-wires.wires } in
    subst₂ (λ l b. HasMade c.args.steps.now new (inputs_sourced c.args.at unset_cells l (next_in c.args.steps.now)) b) (sym (declared_more ds i d (omega arith) c.declaration-item.is))
    (sym (ap bindings_of c.in_ok-push.ensures.items ∙ bindings_more c.loop-declaration.bindings.items d.0.items binding c.as_slice-name.ensures.value))
    (one_more_bound c.args.steps.now c.loop-declaration.steps new c.args.at (declared (take i ds)) (declaration_of d) bound w c.loop-declaration.invariant c.in_ok-wires.ensures)
