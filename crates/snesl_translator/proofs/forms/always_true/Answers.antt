use Rattle.std.proofs.Common.{ℕ, sym, subst}
use Rattle.snesl_translation.specs.Wires.{stream_of}
use Rattle.snesl_translator.specs.steps.Added.{HasMade}
use Rattle.snesl_translator.specs.steps.Views.{next_in, wires_of}
use Rattle.snesl_translator.proofs.OfSteps.Adding.{exits_first, then_done}
use Rattle.snesl_translator.specs.Translated.{always_true}
use Rattle.snesl_translator.proofs.forms.always_true.Goals as goal

pub returns-in_err-d : goal.returns-in_err-d
returns-in_err-d c =
    exits_first wires_of (λ (n : ℕ). n) c.args.steps.now c.constant.new.steps c.constant.new.steps _ _ c.in_err-d.field-0.0 c.from_residual.result c.from_residual.ensures c.in_err-d.ensures

pub returns : goal.returns
returns c =
    subst (λ n. HasMade c.args.steps.now c.constant.new.steps (always_true c.args.at c.args.control (next_in c.args.steps.now)) n) (sym c.stream.ensures)
    (then_done c.args.steps.now c.constant.new.steps _ stream_of (wires_of c.in_ok-d.d) c.in_ok-d.ensures)
