use Rattle.std.proofs.Common.{rules, ◌≡◌, List, length, sym, ap, subst, ◌∙◌, arith, IfOk}
use Rattle.flow_messages.specs.Signals.{signals, ended}
use Rattle.flow_messages.specs.declared.message.Msg.{Msg}
use Rattle.flow_rings.specs.Edge.{received}
use borrow.Author.Rules.{lives, in_lives}
use denote.Param.Send.{sendable}
use Rattle.std.proofs.Crossing.{crosses}
use Rattle.snesl_data.proofs.Sends.{elements_sends}
use Rattle.flow_messages.proofs.Sends.{typed_sends}
use Rattle.flow_rings.proofs.Sends.{writer_sends}
use Rattle.flow_rings.proofs.crossing.across.send_across.Goals as goal

pub returns-clause-taken : goal.returns-clause-taken
returns-clause-taken g c =
    let writer = c.join-writer.ensures.first in
    let reader = c.join-writer.ensures.second in
    let met = c.meet-held.ensures in
    let closed = ap (λ (ms : List Msg). ended (signals ms)) met.reader.1 ∙ reader.stopped in
    let all = c.all_was_received.ensures.writer c.meet-held.new.writer c.meet-held.new.reader met.fifo closed in
    let kept = subst (λ r. IfOk r (λ v. v.items ≡ received c.join-writer.result.1.0)) c.in_ok-taken.was reader.taken in
    kept ∙ sym met.reader.1 ∙ all.0 ∙ met.writer.1 ∙ writer.1

pub returns-clause-empty : goal.returns-clause-empty
returns-clause-empty g c =
    let met = c.meet-held.ensures in
    let closed = ap (λ (ms : List Msg). ended (signals ms)) met.reader.1 ∙ c.join-writer.ensures.second.stopped in
    let all = c.all_was_received.ensures.writer c.meet-held.new.writer c.meet-held.new.reader met.fifo closed in
    let count = met.count ∙ ap length all.1 in
    (count, omega (arith, count, met.whole, met.writer.0.1, c.join-writer.ensures.first.0.1, c.in_ok-writer.ensures.writer.2))

-- an end and its messages go to the other thread and come back
pub join-writer-requires-send-F : goal.join-writer-requires-send-F
join-writer-requires-send-F g c κs within = search (writer_sends, elements_sends, typed_sends, c.type_bounds.sync-R, crosses, sendable, lives, in_lives, rules) depth 80 fits 60000

pub join-writer-requires-send-A : goal.join-writer-requires-send-A
join-writer-requires-send-A g c κs within = search (writer_sends, crosses, sendable) depth 60 fits 20000
