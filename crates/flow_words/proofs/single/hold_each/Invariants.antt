use Rattle.std.proofs.Common.{take}
use Rattle.flow_boxes.specs.Coming.{HasCome}
use Rattle.flow_words.specs.Words.{each_said}
use Rattle.flow_words.proofs.single.hold_each.Given as goal

-- what is held so far
abbrev pub invariant-loop-word : goal.invariant-loop-word
invariant-loop-word g l = HasCome (each_said g.W.Single.said (take l.word-index l.words)) l.initial.inbox l.inbox
