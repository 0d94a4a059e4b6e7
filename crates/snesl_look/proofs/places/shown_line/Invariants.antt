use Rattle.std.proofs.Common.{◌≡◌, map, take}
use Rattle.snesl_look.specs.Places.{shown_byte}
use Rattle.snesl_look.proofs.places.shown_line.Given as goal

-- the bytes so far are shown
abbrev pub invariant-loop-byte : goal.invariant-loop-byte
invariant-loop-byte l = l.shown.items ≡ map shown_byte (take l.byte-index l.line)
