use Rattle.std.proofs.Common.{◌≡◌, ◌≤◌}
use Rattle.snesl_advice.specs.Told.{length_without_blanks}
use Rattle.snesl_advice.proofs.tokens.length_without_blanks.Given as goal

-- the blanks at the end of what was looked at are left out
abbrev pub invariant-loop-place : goal.invariant-loop-place
invariant-loop-place l = record {
  is : l.end ≡ length_without_blanks l.text l.place;
  within : l.end ≤ l.place;
}
