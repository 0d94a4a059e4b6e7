use Rattle.std.proofs.Common.{◌≡◌, ◌+◌, ◌-◌, ◌≤◌, ◌++◌, length, take}
use Rattle.rtrb.specs.Ring as port
use Rattle.flow_messages.specs.Contents.{flag_messages}
use Rattle.flow_words.specs.Words.{flag_word, each_said}
use Rattle.flow_words.proofs.sending.push_flags.Given as goal

-- what was put so far
abbrev pub invariant-loop-put : goal.invariant-loop-put
invariant-loop-put l = record {
  within : l.put ≤ length l.fn.flags;
  ring : port.SameProducer l.fn.ring l.ring;
  put : each_said flag_word (port.sent l.ring) ≡ each_said flag_word (port.sent l.fn.ring) ++ flag_messages (take l.put l.fn.flags);
  room : port.known_free l.fn.ring ≤ port.known_free l.ring + l.put;
}

abbrev pub decreases-loop-put : goal.decreases-loop-put
decreases-loop-put l = length l.fn.flags - l.put
