use Rattle.std.proofs.Common.{◌++◌, List, ap, ◌∙◌, rules}
use Rattle.rtrb.specs.Ring as port
use Rattle.flow_messages.specs.declared.message.Msg.{Msg}
use Rattle.flow_messages.specs.declared.message.Item.TheVariants.{Bool as BoolItem}
use Rattle.flow_messages.specs.Signals.{signals, ended}
use Rattle.flow_messages.proofs.Signals.{block-ended}
use Rattle.flow_words.specs.Words.{flag_word, each_said}
use Rattle.flow_words.proofs.Lists.{said_grown}
use Rattle.flow_words.proofs.Putting.{singles_follow}
use Rattle.flow_words.proofs.sending.push_few_flags.Goals as goal

pub push_all-requires : goal.push_all-requires
push_all-requires c = singles_follow flag_word (port.sent c.args.ring.now) _ c.requires.open (ap (λ (ms : List Msg). ended (signals ms)) c.lay_out.ensures.laid
    ∙ block-ended (λ b. BoolItem b) c.args.flags.now)

pub returns-clause-put : goal.returns-clause-put
returns-clause-put c =
    let done = c.if-not-push_all.ensures.done (search rules) in
    said_grown flag_word (port.sent c.args.ring.now) _ _ done ∙ ap (λ l. each_said flag_word (port.sent c.args.ring.now) ++ l) c.lay_out.ensures.laid
