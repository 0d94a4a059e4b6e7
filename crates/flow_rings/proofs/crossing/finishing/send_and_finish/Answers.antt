use Rattle.std.proofs.Common.{rules, ◌≡◌, List, length, refl, sym, ap, subst, ◌∙◌, IfOk, IfSome}
use Rattle.flow_messages.specs.Signals.{signals, ended}
use Rattle.flow_messages.specs.declared.message.Msg.{Msg}
use Rattle.flow_rings.specs.Edge.{received, all_sent, IsEdge, IsMarkOf}
use Rattle.flow_rings.specs.declared.ring.EdgeReader.{EdgeReader}
use borrow.Author.Rules.{lives, in_lives}
use denote.Param.Send.{sendable}
use Rattle.std.proofs.Crossing.{crosses}
use Rattle.std.proofs.Crossing as crossing
use Rattle.std.proofs.alloc.Global.TheSendSync as heap
use Rattle.snesl_data.proofs.Sends.{elements_sends}
use Rattle.flow_messages.proofs.Sends.{typed_sends}
use Rattle.flow_rings.proofs.Sends.{writer_sends}
use Rattle.rtrb.proofs.end.End.TheSendSync as end
use Rattle.flow_messages.proofs.flat.Flat.TheSendSync as flat
use Rattle.flow_rings.proofs.crossing.finishing.send_and_finish.Goals as goal

pub after-left-requires : goal.after-left-requires
after-left-requires g c =
    let writer = c.in_ok-writer.writer in
    let mark = subst (λ m. IfSome m (λ f. (r : EdgeReader) → IsEdge writer r → IsMarkOf f r)) c.in-Some.is c.join-mark.ensures.first.0 in
    let still = c.same_ends_are_an_edge.ensures.edge writer writer c.in_ok-writer.reader c.join-mark.result.1.0 c.in_ok-writer.ensures.pair ((refl, refl), c.join-mark.ensures.second.same) in
    mark c.join-mark.result.1.0 still

pub returns-clause-taken : goal.returns-clause-taken
returns-clause-taken g c =
    let after = c.after-left.ensures in
    let reader = c.join-mark.ensures.second in
    let sent = subst (λ m. IfSome m (λ f. all_sent f ≡ c.args.messages.items)) c.in-Some.is c.join-mark.ensures.first.1 in
    let closed = ap (λ (ms : List Msg). ended (signals ms)) after.looked.0 ∙ reader.stopped in
    let all = c.all_was_received.ensures.mark c.in-Some.mark c.after-left.new.self after.all closed in
    let kept = subst (λ r. IfOk r (λ v. v.items ≡ received c.join-mark.result.1.0)) c.in_ok-taken-2.was reader.taken in
    kept ∙ sym after.looked.0 ∙ all.0 ∙ sent

pub returns-clause-left : goal.returns-clause-left
returns-clause-left g c =
    let after = c.after-left.ensures in
    let closed = ap (λ (ms : List Msg). ended (signals ms)) after.looked.0 ∙ c.join-mark.ensures.second.stopped in
    let all = c.all_was_received.ensures.mark c.in-Some.mark c.after-left.new.self after.all closed in
    after.value ∙ ap length all.1

-- an end and its messages go to the other thread and come back
pub join-mark-requires-send-F : goal.join-mark-requires-send-F
join-mark-requires-send-F g c κs within = search (writer_sends, elements_sends, typed_sends, c.type_bounds.sync-R, crosses, sendable, lives, in_lives, rules) depth 80 fits 60000

pub join-mark-requires-send-A : goal.join-mark-requires-send-A
join-mark-requires-send-A g c κs within = search (elements_sends, typed_sends, end.the_send, flat.the_field_send, heap.the_field_send, crossing.frees, crosses, sendable) depth 60 fits 20000
