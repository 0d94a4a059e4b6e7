use Rattle.std.proofs.Common.{◌≡◌, ◌++◌, ap}
use Rattle.snesl_translator.specs.steps.Views.{bindings_of}
use Rattle.snesl_translator.specs.scopes.Scopes.{bound_of, names_in}
use Rattle.snesl_translator.specs.scopes.Moved.{moved_by}
use Rattle.snesl_translator.proofs.OfScopes.Moved.{frame_refused, outer_refused, frames_made}
use Rattle.snesl_translator.proofs.scopes.moving.+move_scope.Goals as goal

pub returns-in_err-move_frame-in-Frame : goal.returns-in_err-move_frame-in-Frame
returns-in_err-move_frame-in-Frame t c =
    let move = moved_by c.args.at c.args.movement in
    let names = names_in c.args.part.now in
    let first = bindings_of c.in-Frame.bindings.now in
    let others = bound_of c.in-Frame.outer.now in
    let before = bindings_of c.args.moved.now.items in
    let frames : bound_of c.args.scope.now ≡ first ++ others = ap bound_of c.in-Frame.is in
    frame_refused move names (bound_of c.args.scope.now) first others before frames c.args.steps.now c.move_frame.new.steps c.move_frame.new.steps (bindings_of c.move_frame.new.moved.items) _
    c.in_err-move_frame-in-Frame.field-0.0 c.from_residual.result c.from_residual.ensures c.in_err-move_frame-in-Frame.ensures

pub returns-in_err-move_scope-in-Frame : goal.returns-in_err-move_scope-in-Frame
returns-in_err-move_scope-in-Frame t c =
    let move = moved_by c.args.at c.args.movement in
    let names = names_in c.args.part.now in
    let first = bindings_of c.in-Frame.bindings.now in
    let others = bound_of c.in-Frame.outer.now in
    let before = bindings_of c.args.moved.now.items in
    let frames : bound_of c.args.scope.now ≡ first ++ others = ap bound_of c.in-Frame.is in
    outer_refused move names (bound_of c.args.scope.now) first others before frames c.args.steps.now c.move_frame.new.steps c.move_scope.new.steps (bindings_of c.move_frame.new.moved.items)
    (bindings_of c.move_scope.new.moved.items) _ c.in_err-move_scope-in-Frame.field-0.0 c.from_residual-in_err-move_scope-in-Frame.result c.from_residual-in_err-move_scope-in-Frame.ensures
    c.in_ok-move_frame-in-Frame.ensures c.in_err-move_scope-in-Frame.ensures

pub returns-in_ok-move_scope-in-Frame : goal.returns-in_ok-move_scope-in-Frame
returns-in_ok-move_scope-in-Frame t c =
    let move = moved_by c.args.at c.args.movement in
    let names = names_in c.args.part.now in
    let first = bindings_of c.in-Frame.bindings.now in
    let others = bound_of c.in-Frame.outer.now in
    let before = bindings_of c.args.moved.now.items in
    let frames : bound_of c.args.scope.now ≡ first ++ others = ap bound_of c.in-Frame.is in
    frames_made move names (bound_of c.args.scope.now) first others before frames c.args.steps.now c.move_frame.new.steps c.move_scope.new.steps (bindings_of c.move_frame.new.moved.items)
    (bindings_of c.move_scope.new.moved.items) c.in_ok-move_frame-in-Frame.ensures c.in_ok-move_scope-in-Frame.ensures
