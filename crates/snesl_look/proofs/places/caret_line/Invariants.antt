use Rattle.std.proofs.Common.{◌≡◌, filter, map, take}
use Rattle.snesl_look.specs.Places.{blank_for, starts_character}
use Rattle.snesl_look.proofs.places.caret_line.Given as goal

-- the bytes so far are blank
abbrev pub invariant-loop-byte : goal.invariant-loop-byte
invariant-loop-byte l = l.caret.items ≡ map blank_for (filter starts_character (take l.byte-index l.byte-items))
