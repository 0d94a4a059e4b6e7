use Rattle.std.proofs.Common.{◌++◌, List, ap, ◌∙◌, arith, append_assoc}
use Rattle.std.proofs.lemmas.List.{replicate-append-replicate}
use Rattle.rtrb.specs.Ring as port
use Rattle.flow_messages.specs.declared.message.Msg.{Msg}
use Rattle.flow_messages.specs.declared.message.Msg.TheVariants.{Item as ItemMsg}
use Rattle.flow_messages.specs.declared.message.Item.TheVariants.{Unit as UnitItem}
use Rattle.flow_messages.specs.Contents.{unit_messages}
use Rattle.flow_messages.specs.Signals.{signals, ended}
use Rattle.flow_messages.proofs.Signals.{ended-more, units-ended}
use Rattle.flow_words.specs.Words.{unit_word, each_said}
use Rattle.flow_words.proofs.Putting.{same_producer}
use Rattle.flow_words.proofs.sending.push_units.Goals as goal

pub push_few_units-requires-clause-open : goal.push_few_units-requires-clause-open
push_few_units-requires-clause-open c =
    let i = c.loop-put.put in
    ap (λ (ms : List Msg). ended (signals ms)) c.loop-put.invariant.put ∙ ended-more (each_said unit_word (port.sent c.args.ring.now)) (unit_messages i) c.requires.open ∙ units-ended UnitItem i

pub loop-put-preserved : goal.loop-put-preserved
loop-put-preserved c =
    let inv = c.loop-put.invariant in
    let now = c.push_few_units.ensures in
    let i = c.loop-put.put in
    let n = c.min-some.result in
    let before = each_said unit_word (port.sent c.args.ring.now) in
    record {
      within = omega (arith, inv.within, c.min-some.ensures);
      ring = same_producer c.args.ring.now c.loop-put.ring c.push_few_units.new.ring inv.ring now.room.0;
      put = now.put ∙ ap (λ l. l ++ unit_messages n) inv.put ∙ append_assoc before (unit_messages i) (unit_messages n) ∙ ap (λ l. before ++ l) (replicate-append-replicate i n (ItemMsg UnitItem));
      room = omega (arith, inv.room, now.room.1, c.min-some.ensures, c.loop-put-test.true);
    }
