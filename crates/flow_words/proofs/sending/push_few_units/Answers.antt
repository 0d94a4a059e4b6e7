use Rattle.std.proofs.Common.{◌++◌, List, ap, ◌∙◌, rules}
use Rattle.rtrb.specs.Ring as port
use Rattle.flow_messages.specs.declared.message.Msg.{Msg}
use Rattle.flow_messages.specs.declared.message.Item.TheVariants.{Unit as UnitItem}
use Rattle.flow_messages.specs.Signals.{signals, ended}
use Rattle.flow_messages.proofs.Signals.{units-ended}
use Rattle.flow_words.specs.Words.{unit_word, each_said}
use Rattle.flow_words.proofs.Lists.{units_said, said_grown}
use Rattle.flow_words.proofs.Putting.{singles_follow}
use Rattle.flow_words.proofs.sending.push_few_units.Goals as goal

pub push_all-requires : goal.push_all-requires
push_all-requires c =
    let few = units_said c.args.count 256 c.requires.few in
    singles_follow unit_word (port.sent c.args.ring.now) _ c.requires.open (ap (λ (ms : List Msg). ended (signals ms)) few ∙ units-ended UnitItem c.args.count)

pub returns-clause-put : goal.returns-clause-put
returns-clause-put c =
    let done = c.if-not-push_all.ensures.done (search rules) in
    said_grown unit_word (port.sent c.args.ring.now) _ _ done ∙ ap (λ l. each_said unit_word (port.sent c.args.ring.now) ++ l) (units_said c.args.count 256 c.requires.few)
