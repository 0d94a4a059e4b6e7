use Rattle.std.proofs.Common.{Ok, Err}
use Rattle.snesl_data.specs.Types.{bool}
use Rattle.snesl_translation.specs.Wires.{wire, segments}
use Rattle.snesl_translator.specs.steps.Views.{wires_of}
use Rattle.snesl_translator.proofs.OfSteps.Adding.{made_then, then_done, refused_first, exits, exits_first}
use Rattle.snesl_translator.proofs.steps.forms.append.Goals as goal

pub returns-in_err-flags : goal.returns-in_err-flags
returns-in_err-flags c =
    rw (← c.stream-f.ensures, ← c.stream-g.ensures)
    (exits_first (λ n. wire bool n) wires_of _ c.flags.new.self _ _ _ _ _ c.from_residual.ensures c.in_err-flags.ensures)

pub returns-in_err-items : goal.returns-in_err-items
returns-in_err-items c =
    let e = c.in_err-items.field-0.0 in
    let new = c.mixed.new.steps in
    rw (← c.stream-f.ensures, ← c.stream-g.ensures, ← c.items.ensures, ← c.items-2.ensures)
    (exits wires_of _ _ _ e _ c.from_residual-in_err-items.ensures
    (made_then wires_of _ c.flags.new.self new _ _ (wire bool c.in_ok-flags.flags) (Err e) c.in_ok-flags.ensures
    (refused_first wires_of wires_of c.flags.new.self new new _ _ e c.in_err-items.ensures)))

pub returns : goal.returns
returns c =
    rw (← c.stream-f.ensures, ← c.stream-g.ensures, ← c.items.ensures, ← c.items-2.ensures, c.in_ok-appended.ensures)
    (made_then (λ x. x) _ c.flags.new.self _ _ _ (wire bool c.in_ok-flags.flags) (Ok _) c.in_ok-flags.ensures
    (then_done _ _ _ (λ w. segments c.in_ok-flags.flags w) (wires_of c.in_ok-items.items) c.in_ok-items.ensures))
