use Rattle.std.proofs.Common.{◌≡◌, ℕ, false, length}
use Rattle.flow_messages.specs.declared.message.Kind.{Kind}
use Rattle.flow_messages.specs.Tables.{at_line}
use Rattle.flow_boxes.specs.Contents.{writes_in, reads_in}
use Rattle.flow_boxes.specs.Kinds.{kind_or, outbox_kind, inbox_kind}
use Rattle.flow_boxes.specs.Reserved.{OutboxesReserved, InboxesReserved}
use Rattle.flow_boxes.proofs.boxes.Boxes.new.Given as goal

abbrev pub invariant-loop : goal.invariant-loop
invariant-loop l = record {
  outbox_count : length l.outboxes.items ≡ l.counter;
  inbox_count : length l.inboxes.items ≡ l.counter;
  writes : (k : ℕ) → at_line writes_in l.outboxes.items k false ≡ false;
  reads : (k : ℕ) → at_line reads_in l.inboxes.items k false ≡ false;
  outbox_kinds : (j : Kind) (k : ℕ) → at_line (kind_or outbox_kind j) l.outboxes.items k j ≡ j;
  inbox_kinds : (j : Kind) (k : ℕ) → at_line (kind_or inbox_kind j) l.inboxes.items k j ≡ j;
  outboxes : OutboxesReserved l.capacity l.outboxes.items;
  inboxes : InboxesReserved l.capacity l.inboxes.items;
}
