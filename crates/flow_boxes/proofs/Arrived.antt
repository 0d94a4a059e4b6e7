-- A reader's box to which many messages came.
use Rattle.std.proofs.Common.{◌≡◌, List, ◌++◌, length, ap, sym, ◌∙◌}
use Rattle.std.specs.Io.Iter.{u64_saturate}
use Rattle.flow_messages.specs.declared.message.Msg.{Msg}
use Rattle.flow_messages.specs.Lines.{gone}
use Rattle.flow_messages.specs.Stores.{content_of}
use Rattle.flow_messages.proofs.Lines.{gone_put, fifo_put}
use Rattle.flow_boxes.specs.declared.inbox.Inbox.{Inbox}
use Rattle.flow_boxes.specs.Coming.{HasCome}

-- what was taken stays, where what came is held
stays_gone : (i : Inbox) (ms all held : List Msg) → all ≡ i.arrived.items ++ ms → held ≡ content_of i.store ++ ms → gone all held ≡ gone i.arrived.items (content_of i.store)
stays_gone i ms all held came is = ap (λ l. gone l held) came ∙ ap (gone (i.arrived.items ++ ms)) is ∙ gone_put i.arrived.items (content_of i.store) i.fifo ms

pub stays_in_order : (i : Inbox) (ms all held : List Msg) → all ≡ i.arrived.items ++ ms → held ≡ content_of i.store ++ ms → gone all held ++ held ≡ all
stays_in_order i ms all held came is =
    ap (λ l. gone l held ++ held) came ∙ ap (λ l. gone (i.arrived.items ++ ms) l ++ l) is ∙ fifo_put i.arrived.items (content_of i.store) i.fifo ms ∙ sym came

pub stays_counted : (i : Inbox) (ms all held : List Msg) → all ≡ i.arrived.items ++ ms → held ≡ content_of i.store ++ ms → i.taken ≡ u64_saturate (length (gone all held))
stays_counted i ms all held came is = i.counts ∙ ap (λ l. u64_saturate (length l)) (sym (stays_gone i ms all held came is))

pub arrives : (i now : Inbox) (ms : List Msg) → now.arrived.items ≡ i.arrived.items ++ ms → content_of now.store ≡ content_of i.store ++ ms →
    now.store.kind ≡ i.store.kind → now.store.capacity ≡ i.store.capacity → HasCome ms i now
arrives i now ms came is kind capacity = record { arrived = came; held = is; received = stays_gone i ms now.arrived.items (content_of now.store) came is; kind = kind; capacity = capacity }
