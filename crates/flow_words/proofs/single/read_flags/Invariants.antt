use Rattle.std.proofs.Common.{◌≡◌, false, length, take}
use Rattle.flow_messages.specs.Contents.{flag_messages}
use Rattle.flow_words.specs.Words.{flag_word, each_said}
use Rattle.flow_words.proofs.single.read_flags.Given as goal

-- what was read so far, where no end was found
abbrev pub invariant-loop-place : goal.invariant-loop-place
invariant-loop-place l = record {
  places : length l.flags ≡ length l.fn.flags;
  read : l.ended ≡ false → each_said flag_word (take l.place l.words) ≡ flag_messages (take l.place l.flags);
}
