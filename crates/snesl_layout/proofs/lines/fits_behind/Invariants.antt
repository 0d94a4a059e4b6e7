use Rattle.std.proofs.Common.{◌≡◌, drop}
use Rattle.snesl_layout.specs.Lines.{fits_behind, tokens_fit}
use Rattle.snesl_layout.proofs.lines.fits_behind.Given as goal

-- all tokens fit just if those from this one on do
abbrev pub invariant-loop-i : goal.invariant-loop-i
invariant-loop-i l =
    fits_behind l.text l.fn.stop l.fn.room l.fn.before l.fn.last l.tokens ≡ tokens_fit l.text l.stop l.room l.depth l.before l.last (drop l.i l.tokens)
