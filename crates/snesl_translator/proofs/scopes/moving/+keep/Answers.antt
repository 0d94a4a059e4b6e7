use Rattle.std.proofs.Common.{◌≡◌, refl, sym, ap, ◌∙◌}
use Rattle.std.proofs.Math.Path.{ap₂}
use Rattle.snesl_translation.specs.Wires.{two, segments}
use Rattle.snesl_translation.specs.Moving.{kept}
use Rattle.snesl_translator.specs.steps.Views.{wires_of}
use Rattle.snesl_translator.proofs.OfScopes.Values.{first_refused, second_refused, both_made, flags_refused, truths_refused, items_refused, sequence_made}
use Rattle.snesl_translator.proofs.scopes.moving.+keep.Goals as goal

pub returns-in_err-first-in-Two : goal.returns-in_err-first-in-Two
returns-in_err-first-in-Two t c =
    let a = wires_of c.deref.result.now in
    let b = wires_of c.in-Two.second.value in
    let parts : wires_of c.args.wires.now ≡ two a b = ap wires_of c.in-Two.is ∙ ap (λ x. two (wires_of x) b) (sym c.deref.ensures) in
    first_refused (kept c.args.at c.args.truths) (λ a b k. refl) (wires_of c.args.wires.now) a b parts c.args.steps.now c.keep.new.steps c.keep.new.steps
    c.in_err-first-in-Two.field-0.0 c.from_residual.result c.from_residual.ensures c.in_err-first-in-Two.ensures

pub returns-in_err-second-in-Two : goal.returns-in_err-second-in-Two
returns-in_err-second-in-Two t c =
    let a = wires_of c.deref.result.now in
    let b = wires_of c.deref-in-Two.result.now in
    let parts : wires_of c.args.wires.now ≡ two a b = ap wires_of c.in-Two.is ∙ ap₂ (λ x y. two (wires_of x) (wires_of y)) (sym c.deref.ensures) (sym c.deref-in-Two.ensures) in
    second_refused (kept c.args.at c.args.truths) (λ a b k. refl) (wires_of c.args.wires.now) a b parts c.args.steps.now c.keep.new.steps c.keep-in-Two.new.steps c.keep-in-Two.new.steps
    (wires_of c.in_ok-first-in-Two.first) c.in_err-second-in-Two.field-0.0 c.from_residual-in_err-second-in-Two.result c.from_residual-in_err-second-in-Two.ensures
    c.in_ok-first-in-Two.ensures c.in_err-second-in-Two.ensures

pub returns-in_ok-pair-in-Two : goal.returns-in_ok-pair-in-Two
returns-in_ok-pair-in-Two t c =
    let a = wires_of c.deref.result.now in
    let b = wires_of c.deref-in-Two.result.now in
    let parts : wires_of c.args.wires.now ≡ two a b = ap wires_of c.in-Two.is ∙ ap₂ (λ x y. two (wires_of x) (wires_of y)) (sym c.deref.ensures) (sym c.deref-in-Two.ensures) in
    both_made (kept c.args.at c.args.truths) (λ a b k. refl) (wires_of c.args.wires.now) a b parts c.args.steps.now c.keep.new.steps c.keep-in-Two.new.steps
    (wires_of c.in_ok-first-in-Two.first) (wires_of c.in_ok-second-in-Two.second) (wires_of c.in_ok-pair-in-Two.pair)
    c.in_ok-first-in-Two.ensures c.in_ok-second-in-Two.ensures c.in_ok-pair-in-Two.ensures

pub returns-in_err-flags-in-Segments : goal.returns-in_err-flags-in-Segments
returns-in_err-flags-in-Segments t c =
    flags_refused c.args.at c.args.truths c.in-Segments.groups (wires_of c.args.wires.now) (wires_of c.in-Segments.items.value)
    (ap wires_of c.in-Segments.is) c.args.steps.now c.flags.new.self c.flags.new.self
    c.in_err-flags-in-Segments.field-0.0 c.from_residual-in_err-flags-in-Segments.result c.from_residual-in_err-flags-in-Segments.ensures c.in_err-flags-in-Segments.ensures

pub returns-in_err-inner-in-Segments : goal.returns-in_err-inner-in-Segments
returns-in_err-inner-in-Segments t c =
    truths_refused c.args.at c.args.truths c.in-Segments.groups (wires_of c.args.wires.now) (wires_of c.in-Segments.items.value) (ap wires_of c.in-Segments.is) c.args.steps.now
    c.flags.new.self c.in_ok-flags-in-Segments.flags c.in_ok-flags-in-Segments.ensures c.flags-in-Segments.new.self c.flags-in-Segments.new.self
    c.in_err-inner-in-Segments.field-0.0 c.from_residual-in_err-inner-in-Segments.result c.from_residual-in_err-inner-in-Segments.ensures c.in_err-inner-in-Segments.ensures

pub returns-in_err-items-in-Segments : goal.returns-in_err-items-in-Segments
returns-in_err-items-in-Segments t c =
    let items = wires_of c.deref-in-Segments.result.now in
    let parts : wires_of c.args.wires.now ≡ segments c.in-Segments.groups items = ap wires_of c.in-Segments.is
    ∙ ap (λ x. segments c.in-Segments.groups (wires_of x)) (sym c.deref-in-Segments.ensures) in
    items_refused c.args.at c.args.truths c.in-Segments.groups (wires_of c.args.wires.now) items parts c.args.steps.now
    c.flags.new.self c.in_ok-flags-in-Segments.flags c.in_ok-flags-in-Segments.ensures c.flags-in-Segments.new.self c.in_ok-inner-in-Segments.inner c.in_ok-inner-in-Segments.ensures
    c.keep-in-Segments.new.steps c.keep-in-Segments.new.steps c.in_err-items-in-Segments.field-0.0 c.from_residual-in_err-items-in-Segments.result c.from_residual-in_err-items-in-Segments.ensures
    c.in_err-items-in-Segments.ensures

pub returns-in_ok-sequence-in-Segments : goal.returns-in_ok-sequence-in-Segments
returns-in_ok-sequence-in-Segments t c =
    let items = wires_of c.deref-in-Segments.result.now in
    let parts : wires_of c.args.wires.now ≡ segments c.in-Segments.groups items = ap wires_of c.in-Segments.is
    ∙ ap (λ x. segments c.in-Segments.groups (wires_of x)) (sym c.deref-in-Segments.ensures) in
    sequence_made c.args.at c.args.truths c.in-Segments.groups (wires_of c.args.wires.now) items parts c.args.steps.now
    c.flags.new.self c.in_ok-flags-in-Segments.flags c.in_ok-flags-in-Segments.ensures c.flags-in-Segments.new.self c.in_ok-inner-in-Segments.inner c.in_ok-inner-in-Segments.ensures
    c.keep-in-Segments.new.steps (wires_of c.in_ok-items-in-Segments.items) (wires_of c.in_ok-sequence-in-Segments.sequence) c.in_ok-items-in-Segments.ensures c.in_ok-sequence-in-Segments.ensures
