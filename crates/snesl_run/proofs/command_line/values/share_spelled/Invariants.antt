use Rattle.std.proofs.Common.{◌≡◌, map, take}
use Rattle.std.specs.Char.{digit_value}
use Rattle.std.specs.List.{All}
use Rattle.snesl_run.specs.command_line.Settings.{IsShareDigit}
use Rattle.snesl_run.proofs.command_line.values.share_spelled.Given as goal

-- the entries of the digits so far
abbrev pub invariant-loop-digit : goal.invariant-loop-digit
invariant-loop-digit l = record {
  digits : All IsShareDigit (take l.digit-index l.digit-items);
  entries : l.share.items ≡ map digit_value (take l.digit-index l.digit-items);
}
