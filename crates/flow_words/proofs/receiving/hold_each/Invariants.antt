use Rattle.std.proofs.Common.{◌≡◌, take}
use Rattle.flow_boxes.specs.Coming.{HasCome}
use Rattle.flow_words.specs.Words.{ints_said, group_after}
use Rattle.flow_words.proofs.receiving.hold_each.Given as goal

-- what is held so far
abbrev pub invariant-loop-word : goal.invariant-loop-word
invariant-loop-word l = record {
  come : HasCome (ints_said l.fn.group (take l.word-index l.words)) l.fn.inbox l.inbox;
  group : l.now ≡ group_after l.fn.group (take l.word-index l.words);
}
