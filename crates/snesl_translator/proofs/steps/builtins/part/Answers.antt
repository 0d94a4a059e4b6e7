use Rattle.std.proofs.Common.{◌≡◌, ◌∷◌, [], Err, ap, ◌∙◌, subst}
use Rattle.std.proofs.Math.Path.{ap₂}
use Rattle.snesl_data.specs.Types.{ty_of, bool, pair}
use Rattle.flow_nodes.specs.plans.Plans.{part_flags}
use Rattle.snesl_translation.specs.Wires.{segments, stream_of, first_wires, second_wires, item_wires}
use Rattle.snesl_translation.specs.Makings.{stepped}
use Rattle.snesl_translator.specs.steps.Views.{next_in, wires_of}
use Rattle.snesl_translator.specs.steps.Added.{HasMade, Adds}
use Rattle.snesl_translator.proofs.OfSteps.Adding.{exits_first, then_done}
use Rattle.snesl_translator.proofs.steps.builtins.part.Goals as goal

pub returns-in_err-flags : goal.returns-in_err-flags
returns-in_err-flags c =
    let inner = c.stream-2.ensures ∙ ap stream_of c.items.ensures in
    let reads = c.stream.result ∷ c.stream-2.result ∷ c.stream-3.result ∷ [] in
    let flags : pair (ty_of c.in_ok-new.field-0.value) (ty_of c.in_ok-new-2.field-0.value) ≡ pair bool bool =
    ap₂ (λ s t. pair (ty_of s) (ty_of t)) c.in_ok-new.ensures.ok c.in_ok-new-2.ensures.ok in
    rw (← c.stream.ensures, ← inner, ← c.stream-3.ensures)
    (exits_first wires_of wires_of _ c.step_on.new.self _ _ _ c.in_err-flags.field-0.0 _ c.from_residual-in_err-flags.ensures
    (subst (λ t. Adds wires_of c.args.steps.now c.step_on.new.self (stepped c.args.at part_flags reads t (next_in c.args.steps.now)) (Err c.in_err-flags.field-0.0)) flags c.in_err-flags.ensures))

pub returns : goal.returns
returns c =
    let inner = c.stream-2.ensures ∙ ap stream_of c.items.ensures in
    let reads = c.stream.result ∷ c.stream-2.result ∷ c.stream-3.result ∷ [] in
    let flags : pair (ty_of c.in_ok-new.field-0.value) (ty_of c.in_ok-new-2.field-0.value) ≡ pair bool bool =
    ap₂ (λ s t. pair (ty_of s) (ty_of t)) c.in_ok-new.ensures.ok c.in_ok-new-2.ensures.ok in
    let h = wires_of c.in_ok-flags.flags in
    let u = wires_of c.args.sequence.now in
    let parts = c.in_ok-parts.ensures ∙ ap₂ segments (c.stream-4.ensures ∙ ap stream_of c.second.ensures) (c.in_ok-items.ensures ∙ c.items-2.ensures) in
    let parted = c.in_ok-parted.ensures ∙ ap₂ segments (c.stream-5.ensures ∙ ap stream_of c.first.ensures) parts in
    rw (parted, ← c.stream.ensures, ← inner, ← c.stream-3.ensures)
    (then_done _ _ _ (λ h. segments (stream_of (first_wires h)) (segments (stream_of (second_wires h)) (item_wires u))) h
    (subst (λ t. HasMade c.args.steps.now c.step_on.new.self (stepped c.args.at part_flags reads t (next_in c.args.steps.now)) h) flags c.in_ok-flags.ensures))
