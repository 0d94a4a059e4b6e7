use Rattle.std.proofs.Common.{◌≡◌, ◌↔◌, drop}
use Rattle.snesl_values.specs.Inputs.{declared}
use Rattle.snesl_types.proofs.fits.same_decls.Given as goal

abbrev pub invariant-loop-number : goal.invariant-loop-number
invariant-loop-number l =
    (declared l.decls ≡ declared l.others) ↔ (declared (drop l.number l.decls) ≡ declared (drop l.number l.others))
