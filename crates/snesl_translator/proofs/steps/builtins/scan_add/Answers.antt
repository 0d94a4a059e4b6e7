use Rattle.std.proofs.Common.{ap, ◌∙◌}
use Rattle.snesl_translation.specs.Wires.{segments, stream_of}
use Rattle.snesl_translator.specs.steps.Views.{wires_of}
use Rattle.snesl_translator.proofs.OfSteps.Adding.{exits_first, then_done}
use Rattle.snesl_translator.proofs.steps.builtins.scan_add.Goals as goal

pub returns-in_err-sums : goal.returns-in_err-sums
returns-in_err-sums c =
    let inner = c.stream.ensures ∙ ap stream_of c.items.ensures in
    rw (← c.stream-flags.ensures, ← inner) (exits_first wires_of wires_of _ c.step_on.new.self _ _ _ _ _ c.from_residual.ensures c.in_err-sums.ensures)

pub returns : goal.returns
returns c =
    let inner = c.stream.ensures ∙ ap stream_of c.items.ensures in
    rw (← c.stream-flags.ensures, ← inner, c.in_ok-scanned.ensures)
    (then_done _ _ _ (λ sums. segments c.stream-flags.result sums) (wires_of c.in_ok-sums.sums) c.in_ok-sums.ensures)
