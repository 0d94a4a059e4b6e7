use Rattle.std.proofs.Common.{◌≡◌, flat_map, take}
use Rattle.snesl_draw.specs.Quoting.{quoted_byte}
use Rattle.snesl_draw.proofs.quoting.quoted.Given as goal

abbrev pub invariant-loop-byte : goal.invariant-loop-byte
invariant-loop-byte l = l.made.items ≡ flat_map quoted_byte (take l.byte-index l.text)
