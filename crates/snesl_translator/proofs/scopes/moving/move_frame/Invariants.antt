use Rattle.std.proofs.Common.{drop}
use Rattle.snesl_translator.specs.steps.Views.{bindings_of, next_in}
use Rattle.snesl_translator.specs.scopes.Scopes.{names_in}
use Rattle.snesl_translator.specs.scopes.Moved.{each_moved, moved_by}
use Rattle.snesl_translator.proofs.OfScopes.Moved.{Continues}
use Rattle.snesl_translator.proofs.scopes.moving.move_frame.Given as goal

abbrev pub invariant-loop-binding : goal.invariant-loop-binding
invariant-loop-binding l =
    let move = moved_by l.at l.movement in
    let names = names_in l.part in
    Continues l.fn.steps l.steps (each_moved move names (bindings_of (drop l.binding-index l.bindings)) (bindings_of l.moved.items) (next_in l.steps))
    (each_moved move names (bindings_of l.bindings) (bindings_of l.fn.moved.items) (next_in l.fn.steps))
