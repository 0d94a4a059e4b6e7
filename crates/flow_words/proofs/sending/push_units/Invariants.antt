use Rattle.std.proofs.Common.{◌≡◌, ◌+◌, ◌-◌, ◌≤◌, ◌++◌}
use Rattle.rtrb.specs.Ring as port
use Rattle.flow_messages.specs.Contents.{unit_messages}
use Rattle.flow_words.specs.Words.{unit_word, each_said}
use Rattle.flow_words.proofs.sending.push_units.Given as goal

-- what was put so far
abbrev pub invariant-loop-put : goal.invariant-loop-put
invariant-loop-put l = record {
  within : l.put ≤ l.count;
  ring : port.SameProducer l.fn.ring l.ring;
  put : each_said unit_word (port.sent l.ring) ≡ each_said unit_word (port.sent l.fn.ring) ++ unit_messages l.put;
  room : port.known_free l.fn.ring ≤ port.known_free l.ring + l.put;
}

abbrev pub decreases-loop-put : goal.decreases-loop-put
decreases-loop-put l = l.count - l.put
