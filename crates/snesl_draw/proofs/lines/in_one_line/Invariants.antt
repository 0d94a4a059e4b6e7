use Rattle.std.proofs.Common.{◌≡◌, ◌++◌, false, drop}
use Rattle.snesl_draw.specs.Lines.{in_one_line}
use Rattle.snesl_draw.proofs.lines.in_one_line.Given as goal

abbrev pub invariant-loop-byte : goal.invariant-loop-byte
invariant-loop-byte l = in_one_line false l.text ≡ l.line.items ++ in_one_line l.after_blank (drop l.byte-index l.text)
