use Rattle.std.proofs.Common.{◌∷◌, subst, sym}
use Rattle.snesl_values.specs.InputTokens.{sign}
use Rattle.snesl_values.specs.Inputs.{StopsAt}
use Rattle.snesl_values.specs.Wants.{Fills, one}
use Rattle.snesl_values.proofs.InputWants.{another_one}
use Rattle.snesl_values.proofs.checker.expect_sign.Goals as goal

pub returns-in-None-clause-stops : goal.returns-in-None-clause-stops
returns-in-None-clause-stops c = λ further.
    subst (StopsAt (Fills c.args.dialect (one (sign c.args.byte) ∷ further)) c.args.text.now c.args.at) (sym c.skip_blanks.ensures.offset)
    (another_one c.args.dialect c.args.text.now (sign c.args.byte) further c.args.at c.in-None.ensures.another)
