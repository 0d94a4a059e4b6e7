use Rattle.std.proofs.Common.{◌≡◌, refl, sym, ap, ◌∙◌}
use Rattle.std.proofs.Math.Path.{ap₂}
use Rattle.snesl_translation.specs.Wires.{two}
use Rattle.snesl_translation.specs.Moving.{distributed}
use Rattle.snesl_translator.specs.steps.Views.{wires_of}
use Rattle.snesl_translator.proofs.OfScopes.Values.{first_refused, second_refused, both_made}
use Rattle.snesl_translator.proofs.scopes.moving.+distribute.Goals as goal

pub returns-in_err-first-in-Two : goal.returns-in_err-first-in-Two
returns-in_err-first-in-Two t c =
    let a = wires_of c.deref.result.now in
    let b = wires_of c.in-Two.second.value in
    let parts : wires_of c.args.wires.now ≡ two a b = ap wires_of c.in-Two.is ∙ ap (λ x. two (wires_of x) b) (sym c.deref.ensures) in
    first_refused (distributed c.args.at c.args.flags) (λ a b k. refl) (wires_of c.args.wires.now) a b parts c.args.steps.now c.distribute.new.steps c.distribute.new.steps
    c.in_err-first-in-Two.field-0.0 c.from_residual.result c.from_residual.ensures c.in_err-first-in-Two.ensures

pub returns-in_err-second-in-Two : goal.returns-in_err-second-in-Two
returns-in_err-second-in-Two t c =
    let a = wires_of c.deref.result.now in
    let b = wires_of c.deref-in-Two.result.now in
    let parts : wires_of c.args.wires.now ≡ two a b = ap wires_of c.in-Two.is ∙ ap₂ (λ x y. two (wires_of x) (wires_of y)) (sym c.deref.ensures) (sym c.deref-in-Two.ensures) in
    second_refused (distributed c.args.at c.args.flags) (λ a b k. refl) (wires_of c.args.wires.now) a b parts c.args.steps.now c.distribute.new.steps
    c.distribute-in-Two.new.steps c.distribute-in-Two.new.steps
    (wires_of c.in_ok-first-in-Two.first) c.in_err-second-in-Two.field-0.0 c.from_residual-in_err-second-in-Two.result c.from_residual-in_err-second-in-Two.ensures
    c.in_ok-first-in-Two.ensures c.in_err-second-in-Two.ensures

pub returns-in_ok-pair-in-Two : goal.returns-in_ok-pair-in-Two
returns-in_ok-pair-in-Two t c =
    let a = wires_of c.deref.result.now in
    let b = wires_of c.deref-in-Two.result.now in
    let parts : wires_of c.args.wires.now ≡ two a b = ap wires_of c.in-Two.is ∙ ap₂ (λ x y. two (wires_of x) (wires_of y)) (sym c.deref.ensures) (sym c.deref-in-Two.ensures) in
    both_made (distributed c.args.at c.args.flags) (λ a b k. refl) (wires_of c.args.wires.now) a b parts c.args.steps.now c.distribute.new.steps c.distribute-in-Two.new.steps
    (wires_of c.in_ok-first-in-Two.first) (wires_of c.in_ok-second-in-Two.second) (wires_of c.in_ok-pair-in-Two.pair)
    c.in_ok-first-in-Two.ensures c.in_ok-second-in-Two.ensures c.in_ok-pair-in-Two.ensures
