use Rattle.std.proofs.Common.{◌≡◌, sym, ap, ◌∙◌}
use Rattle.std.proofs.lemmas.List.{map_push}
use Rattle.snesl_translation.specs.Translation.{is_bound}
use Rattle.snesl_translator.specs.steps.Views.{binding_of, bindings_of, wires_of}
use Rattle.snesl_translator.specs.scopes.Scopes.{names_in}
use Rattle.snesl_translator.specs.scopes.Moved.{moved_by}
use Rattle.snesl_translator.proofs.OfScopes.Among.{bound_stays, unnamed_stays, named_moves}
use Rattle.snesl_translator.proofs.OfScopes.Moved.{one_stays, one_refused, one_made}
use Rattle.snesl_translator.proofs.scopes.moving.move_binding.Goals as goal

pub returns-then-is_bound : goal.returns-then-is_bound
returns-then-is_bound c =
    let name = c.args.binding.now.name.now in
    let before = bindings_of c.args.moved.now.items in
    let names = names_in c.args.part.now in
    let tested : c.is_bound.result ≡ is_bound name before = c.is_bound.ensures ∙ ap (λ l. is_bound name (bindings_of l)) c.deref.ensures.value in
    one_stays (moved_by c.args.at c.args.movement) names (binding_of c.args.binding.now) before c.args.steps.now (bound_stays name before names (sym tested ∙ c.if-is_bound.true))

pub returns-then-not-names : goal.returns-then-not-names
returns-then-not-names c =
    let name = c.args.binding.now.name.now in
    let before = bindings_of c.args.moved.now.items in
    let names = names_in c.args.part.now in
    one_stays (moved_by c.args.at c.args.movement) names (binding_of c.args.binding.now) before c.args.steps.now (unnamed_stays name before names (sym c.names.ensures ∙ c.if-not-names.true))

pub returns-in_err-wires : goal.returns-in_err-wires
returns-in_err-wires c =
    let name = c.args.binding.now.name.now in
    let before = bindings_of c.args.moved.now.items in
    let names = names_in c.args.part.now in
    let tested : c.is_bound.result ≡ is_bound name before = c.is_bound.ensures ∙ ap (λ l. is_bound name (bindings_of l)) c.deref.ensures.value in
    one_refused (moved_by c.args.at c.args.movement) names (binding_of c.args.binding.now) before c.args.steps.now c.move_wires.new.steps c.move_wires.new.steps _
    c.in_err-wires.field-0.0 c.from_residual.result
    (named_moves name before names (sym tested ∙ c.if-is_bound.false) (sym c.names.ensures ∙ c.if-not-names.false)) c.from_residual.ensures
    c.in_err-wires.ensures

pub returns : goal.returns
returns c =
    let name = c.args.binding.now.name.now in
    let before = bindings_of c.args.moved.now.items in
    let names = names_in c.args.part.now in
    let tested : c.is_bound.result ≡ is_bound name before = c.is_bound.ensures ∙ ap (λ l. is_bound name (bindings_of l)) c.deref.ensures.value in
    one_made (moved_by c.args.at c.args.movement) names (binding_of c.args.binding.now) before c.args.steps.now c.move_wires.new.steps (bindings_of c.push.new.self.items)
    (wires_of c.in_ok-wires.wires) (named_moves name before names (sym tested ∙ c.if-is_bound.false) (sym c.names.ensures ∙ c.if-not-names.false)) c.in_ok-wires.ensures
    (ap bindings_of c.in_ok-push.ensures.items ∙ map_push binding_of c.args.moved.now.items _)
