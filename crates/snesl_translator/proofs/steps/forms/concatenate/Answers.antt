use Rattle.std.proofs.Common.{ap, ◌∙◌}
use Rattle.snesl_data.specs.Types.{bool}
use Rattle.snesl_translation.specs.Wires.{wire, segments, stream_of, item_wires}
use Rattle.snesl_translator.specs.steps.Views.{wires_of}
use Rattle.snesl_translator.proofs.OfSteps.Adding.{exits_first, then_done}
use Rattle.snesl_translator.proofs.steps.forms.concatenate.Goals as goal

pub returns-in_err-flags : goal.returns-in_err-flags
returns-in_err-flags c =
    let inner = c.stream-inner.ensures ∙ ap stream_of c.items.ensures in
    rw (← c.stream-outer.ensures, ← inner) (exits_first (λ n. wire bool n) wires_of _ c.flags.new.self _ _ _ _ _ c.from_residual.ensures c.in_err-flags.ensures)

pub returns : goal.returns
returns c =
    let inner = c.stream-inner.ensures ∙ ap stream_of c.items.ensures in
    let u = wires_of c.args.sequence.now in
    let items = c.in_ok-items.ensures ∙ c.items-3.ensures ∙ ap item_wires c.items-2.ensures in
    let joined = c.in_ok-joined.ensures ∙ ap (segments c.in_ok-flags.flags) items in
    rw (joined, ← c.stream-outer.ensures, ← inner)
    (then_done _ _ _ (λ h. segments (stream_of h) (item_wires (item_wires u))) (wire bool c.in_ok-flags.flags) c.in_ok-flags.ensures)
