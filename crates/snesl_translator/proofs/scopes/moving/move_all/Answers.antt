use Rattle.std.proofs.Common.{Vec, Global, ap, ◌∙◌, subst}
use Rattle.snesl_translator.specs.steps.Views.{bindings_of, next_in}
use Rattle.snesl_translator.specs.steps.Added.{Adds, HasMade}
use Rattle.snesl_translator.specs.declared.steps.wires.Binding.{Binding}
use Rattle.snesl_translator.proofs.OfSteps.Adding.{refused_as, exits}
use Rattle.snesl_translator.specs.scopes.Scopes.{bound_of, names_in}
use Rattle.snesl_translator.specs.scopes.Moved.{each_moved, moved_by}
use Rattle.snesl_translator.proofs.OfScopes.Moved.{all_in_turn}
use Rattle.snesl_translator.proofs.scopes.moving.move_all.Goals as goal

pub returns-in_err-move_scope : goal.returns-in_err-move_scope
returns-in_err-move_scope c =
    let old = c.args.steps.now in
    let new = c.move_scope.new.steps in
    let move = moved_by c.args.at c.args.movement in
    let names = names_in c.args.part.now in
    let bound = bound_of c.args.scope.now in
    let e = c.in_err-move_scope.field-0.0 in
    let view = λ (bindings : Vec Binding Global). bindings_of bindings.items in
    let each = each_moved move names bound (bindings_of c.new-moved.result.items) (next_in old) in
    let same = ap (λ l. each_moved move names bound (bindings_of l) (next_in old)) c.new-moved.ensures.items ∙ all_in_turn move names bound (next_in old) in
    subst (λ making. Adds view old new making c.from_residual.result) same
    (exits view old new each e c.from_residual.result c.from_residual.ensures
    (refused_as {A = Unit {0}} (λ x. bindings_of c.move_scope.new.moved.items) view old new new each e c.in_err-move_scope.ensures))

pub returns : goal.returns
returns c =
    let old = c.args.steps.now in
    let move = moved_by c.args.at c.args.movement in
    let names = names_in c.args.part.now in
    let bound = bound_of c.args.scope.now in
    let same = ap (λ l. each_moved move names bound (bindings_of l) (next_in old)) c.new-moved.ensures.items ∙ all_in_turn move names bound (next_in old) in
    subst (λ making. HasMade old c.move_scope.new.steps making (bindings_of c.move_scope.new.moved.items)) same c.in_ok-move_scope.ensures
