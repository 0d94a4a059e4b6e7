use Rattle.std.proofs.Common.{◌≡◌, ◌+◌, ◌/◌, ◌≤◌, ◌++◌, take}
use Rattle.rtrb.specs.Ring as port
use Rattle.flow_messages.specs.Contents.{item_messages}
use Rattle.flow_words.specs.declared.words.Group.TheVariants.{None as NoGroup}
use Rattle.flow_words.specs.Words.{ints_sent, group_after}
use Rattle.flow_words.proofs.sending.push_each.Given as goal

-- what was put so far
abbrev pub invariant-loop-at : goal.invariant-loop-at
invariant-loop-at l = record {
  ring : port.SameProducer l.fn.ring l.ring;
  whole : group_after NoGroup (port.sent l.ring) ≡ NoGroup;
  put : ints_sent (port.sent l.ring) ≡ ints_sent (port.sent l.fn.ring) ++ take l.at (item_messages l.all);
  room : port.known_free l.fn.ring / 4 ≤ port.known_free l.ring / 4 + l.at;
}
