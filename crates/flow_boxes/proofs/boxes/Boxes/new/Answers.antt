use Rattle.std.proofs.Common.{◌≡◌, false, [], ◌∷◌, List, length, ap, subst, sym, ◌∙◌, arith, refl, length-append}
use Rattle.std.specs.Prelude.{Option, None}
use Rattle.flow_messages.specs.Tables.{at_line}
use Rattle.flow_messages.proofs.Tables.{all-snoc}
use Rattle.flow_boxes.specs.declared.outbox.Outbox.{Outbox}
use Rattle.flow_boxes.specs.declared.inbox.Inbox.{Inbox}
use Rattle.flow_boxes.specs.Contents.{writes_in, reads_in}
use Rattle.flow_boxes.specs.Kinds.{kind_or, outbox_kind, inbox_kind}
use Rattle.flow_boxes.specs.Reserved.{outbox_places, inbox_places, OutboxesReserved, InboxesReserved}
use Rattle.flow_boxes.proofs.Opened.{one-empty}
use Rattle.flow_boxes.proofs.boxes.Boxes.new.Goals as goal

pub invariant_of-result-clause-outbox_kinds : goal.invariant_of-result-clause-outbox_kinds
invariant_of-result-clause-outbox_kinds c e k is = c.loop.invariant.outbox_kinds k e

pub invariant_of-result-clause-inbox_kinds : goal.invariant_of-result-clause-inbox_kinds
invariant_of-result-clause-inbox_kinds c e k is = c.loop.invariant.inbox_kinds k e

pub loop-preserved : goal.loop-preserved
loop-preserved c =
    let i = c.loop.invariant in
    let os = c.loop.outboxes.items in
    let is = c.loop.inboxes.items in
    let n = c.args.capacity in
    let o' = c.in_ok-push.ensures.items in
    let i' = c.in_ok-push-2.ensures.items in
    record {
      outbox_count = omega (arith, i.outbox_count, ap length o', length-append os (None ∷ []));
      inbox_count = omega (arith, i.inbox_count, ap length i', length-append is (None ∷ []));
      writes = λ k. ap (λ (x : List (Option Outbox)). at_line writes_in x k false) o' ∙ one-empty writes_in os false i.writes refl k;
      reads = λ k. ap (λ (x : List (Option Inbox)). at_line reads_in x k false) i' ∙ one-empty reads_in is false i.reads refl k;
      outbox_kinds = λ j k. ap (λ (x : List (Option Outbox)). at_line (kind_or outbox_kind j) x k j) o' ∙ one-empty (kind_or outbox_kind j) os j (i.outbox_kinds j) refl k;
      inbox_kinds = λ j k. ap (λ (x : List (Option Inbox)). at_line (kind_or inbox_kind j) x k j) i' ∙ one-empty (kind_or inbox_kind j) is j (i.inbox_kinds j) refl k;
      outboxes = subst (λ (x : List (Option Outbox)). OutboxesReserved n x) (sym o') (all-snoc (λ (o : Option Outbox). outbox_places n o ≡ n) os None i.outboxes refl);
      inboxes = subst (λ (x : List (Option Inbox)). InboxesReserved n x) (sym i') (all-snoc (λ (b : Option Inbox). inbox_places n b ≡ n) is None i.inboxes refl);
    }
