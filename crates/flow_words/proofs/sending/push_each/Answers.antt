use Rattle.std.proofs.Common.{List, take, ap, ◌∙◌, arith, rules}
use Rattle.std.specs.Prelude.{Some}
use Rattle.rtrb.specs.Ring as port
use Rattle.flow_messages.specs.declared.message.Msg.{Msg}
use Rattle.flow_messages.specs.declared.message.Kind.TheVariants.{Int as IntKind}
use Rattle.flow_messages.specs.Contents.{item_messages}
use Rattle.flow_messages.specs.Signals.{signals, ended}
use Rattle.flow_messages.proofs.Signals.{ended-more}
use Rattle.flow_messages.proofs.SideBySide.{item_fits, messages-open, one_more}
use Rattle.flow_words.specs.Words.{ints_sent}
use Rattle.flow_words.proofs.Lists.{open_first}
use Rattle.flow_words.proofs.Putting.{same_producer}
use Rattle.flow_words.proofs.Quarters.{quarter_less}
use Rattle.flow_words.proofs.sending.push_each.Goals as goal

pub push_spelled-requires-clause-fits : goal.push_spelled-requires-clause-fits
push_spelled-requires-clause-fits c = item_fits (Some IntKind) c.args.all c.requires.kind c.loop-at.at c.message.result c.message.ensures

pub push_spelled-requires-clause-open : goal.push_spelled-requires-clause-open
push_spelled-requires-clause-open c =
    let all = item_messages c.args.all in
    let i = c.loop-at.at in
    ap (λ (ms : List Msg). ended (signals ms)) c.loop-at.invariant.put ∙ ended-more (ints_sent (port.sent c.args.ring.now)) (take i all) c.requires.open
    ∙ open_first all i (messages-open c.args.all)

pub loop-at-preserved : goal.loop-at-preserved
loop-at-preserved c =
    let inv = c.loop-at.invariant in
    let now = c.if-not-push_spelled.ensures in
    record {
      ring = same_producer c.args.ring.now c.loop-at.ring c.push_spelled.new.ring inv.ring now.room.0;
      whole = now.whole;
      put = one_more (ints_sent (port.sent c.args.ring.now)) (ints_sent (port.sent c.loop-at.ring)) _ (item_messages c.args.all) c.loop-at.at c.message.result c.message.ensures
          inv.put (now.done (search rules));
      room = omega (arith, inv.room, quarter_less _ _ now.room.1);
    }
