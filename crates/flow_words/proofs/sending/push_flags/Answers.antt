use Rattle.std.proofs.Common.{◌++◌, ◌+◌, List, take, ap, ◌∙◌, arith, append_assoc}
use Rattle.std.specs.List.{slice_range}
use Rattle.rtrb.specs.Ring as port
use Rattle.flow_messages.specs.declared.message.Msg.{Msg}
use Rattle.flow_messages.specs.declared.message.Item.TheVariants.{Bool as BoolItem}
use Rattle.flow_messages.specs.Contents.{flag_messages}
use Rattle.flow_messages.specs.Signals.{signals, ended}
use Rattle.flow_messages.proofs.Signals.{ended-more, block-ended}
use Rattle.flow_words.specs.Words.{flag_word, each_said}
use Rattle.flow_words.proofs.Lists.{flags_further}
use Rattle.flow_words.proofs.Putting.{same_producer}
use Rattle.flow_words.proofs.sending.push_flags.Goals as goal

pub push_few_flags-requires-clause-open : goal.push_few_flags-requires-clause-open
push_few_flags-requires-clause-open c =
    let part = take c.loop-put.put c.args.flags.now in
    ap (λ (ms : List Msg). ended (signals ms)) c.loop-put.invariant.put ∙ ended-more (each_said flag_word (port.sent c.args.ring.now)) (flag_messages part) c.requires.open
    ∙ block-ended (λ b. BoolItem b) part

pub loop-put-preserved : goal.loop-put-preserved
loop-put-preserved c =
    let inv = c.loop-put.invariant in
    let now = c.push_few_flags.ensures in
    let i = c.loop-put.put in
    let n = c.min-some.result in
    let flags = c.args.flags.now in
    let before = each_said flag_word (port.sent c.args.ring.now) in
    let block = flag_messages (slice_range flags i (i + n)) in
    record {
      within = omega (arith, inv.within, c.min-some.ensures);
      ring = same_producer c.args.ring.now c.loop-put.ring c.push_few_flags.new.ring inv.ring now.room.0;
      put = now.put ∙ ap (λ l. l ++ block) inv.put ∙ append_assoc before (flag_messages (take i flags)) block ∙ ap (λ l. before ++ l) (flags_further flags i n);
      room = omega (arith, inv.room, now.room.1, c.min-some.ensures, c.loop-put-test.true);
    }
