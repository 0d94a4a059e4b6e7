use Rattle.std.proofs.Common.{Ok, sym, subst, arith}
use Rattle.std.proofs.Math.ListN.{drop_of_length-le}
use Rattle.snesl_translator.specs.steps.Views.{bindings_of, next_in}
use Rattle.snesl_translator.specs.steps.Added.{HasMade}
use Rattle.snesl_translator.proofs.OfSteps.Adding.{done_made}
use Rattle.snesl_translator.specs.scopes.Scopes.{names_in}
use Rattle.snesl_translator.specs.scopes.Moved.{each_moved, moved_by}
use Rattle.snesl_translator.proofs.OfScopes.Moved.{binding_moved, binding_refused}
use Rattle.snesl_translator.proofs.scopes.moving.move_frame.Goals as goal

pub returns-in_err-move_binding : goal.returns-in_err-move_binding
returns-in_err-move_binding c =
    let move = moved_by c.args.at c.args.movement in
    let names = names_in c.args.part.now in
    let whole = each_moved move names (bindings_of c.args.bindings.now) (bindings_of c.args.moved.now.items) (next_in c.args.steps.now) in
    binding_refused move names c.args.bindings.now c.loop-binding.binding-index c.binding-item.result c.loop-binding-test.true c.binding-item.is
    c.args.steps.now c.loop-binding.steps (bindings_of c.loop-binding.moved.items) whole c.loop-binding.invariant c.move_binding.new.steps (bindings_of c.move_binding.new.moved.items) _
    c.in_err-move_binding.field-0.0 c.from_residual.result c.from_residual.ensures c.in_err-move_binding.ensures

pub loop-binding-preserved : goal.loop-binding-preserved
loop-binding-preserved c =
    let move = moved_by c.args.at c.args.movement in
    let names = names_in c.args.part.now in
    let whole = each_moved move names (bindings_of c.args.bindings.now) (bindings_of c.args.moved.now.items) (next_in c.args.steps.now) in
    binding_moved move names c.args.bindings.now c.loop-binding.binding-index c.binding-item.result c.loop-binding-test.true c.binding-item.is
    c.args.steps.now c.loop-binding.steps (bindings_of c.loop-binding.moved.items) whole c.loop-binding.invariant c.move_binding.new.steps (bindings_of c.move_binding.new.moved.items)
    c.in_ok-move_binding.ensures

pub returns : goal.returns
returns c =
    let now = c.loop-binding.steps in
    let moved = bindings_of c.loop-binding.moved.items in
    let move = moved_by c.args.at c.args.movement in
    let names = names_in c.args.part.now in
    c.loop-binding.invariant now moved (Ok tt)
    (subst (λ l. HasMade now now (each_moved move names (bindings_of l) moved (next_in now)) moved)
    (sym (drop_of_length-le c.args.bindings.now {i = c.loop-binding.binding-index} (omega arith))) (done_made now moved))
