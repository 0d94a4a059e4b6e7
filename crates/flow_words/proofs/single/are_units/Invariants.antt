use Rattle.std.proofs.Common.{◌≡◌, false, take}
use Rattle.flow_messages.specs.Contents.{unit_messages}
use Rattle.flow_words.specs.Words.{unit_word, each_said}
use Rattle.flow_words.proofs.single.are_units.Given as goal

-- those so far are units where no end was found
abbrev pub invariant-loop-word : goal.invariant-loop-word
invariant-loop-word l = l.ended ≡ false → each_said unit_word (take l.word-index l.words) ≡ unit_messages l.word-index
