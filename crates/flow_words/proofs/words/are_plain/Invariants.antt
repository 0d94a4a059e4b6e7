use Rattle.std.proofs.Common.{◌≡◌, false, take}
use Rattle.flow_words.specs.Words.{ArePlain}
use Rattle.flow_words.proofs.words.are_plain.Given as goal

-- those so far are plain where no escape was found
abbrev pub invariant-loop-word : goal.invariant-loop-word
invariant-loop-word l = l.escaped ≡ false → ArePlain (take l.word-index l.words)
