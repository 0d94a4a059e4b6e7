use Rattle.std.proofs.Common.{rules, [], sym, ap, ◌∙◌, arith, length}
use Rattle.flow_messages.specs.Stores.{content_of}
use Rattle.std.proofs.lemmas.List.{length-map}
use Rattle.flow_messages.specs.declared.message.Msg.TheVariants.{Item as ItemMsg}
use Rattle.flow_messages.specs.declared.message.Item.TheVariants.{Int as IntItem}
use Rattle.flow_words.specs.declared.words.Group.TheVariants.{None as NoGroup}
use Rattle.flow_words.specs.Words.{ArePlain, ints_said, group_after}
use Rattle.flow_words.proofs.Said.{said-nil, after-nil, plain_said, plain_after}
use Rattle.flow_words.proofs.Coming.{come_none, come_as}
use Rattle.flow_words.proofs.Holding.{some_there, none_is}
use Rattle.flow_words.proofs.InTurn.{open_now}
use Rattle.flow_words.proofs.receiving.hold_words.Goals as goal

pub returns-then-is_empty-clause-come : goal.returns-then-is_empty-clause-come
returns-then-is_empty-clause-come c =
    let none = none_is c.args.words.now c.is_empty.result c.is_empty.ensures c.if-is_empty.true in
    let said = ap (ints_said c.args.group) none ∙ said-nil c.args.group in
    come_as [] (ints_said c.args.group c.args.words.now) c.args.inbox.now c.args.inbox.now (sym said) (come_none c.args.inbox.now)

pub returns-then-is_empty-clause-group : goal.returns-then-is_empty-clause-group
returns-then-is_empty-clause-group c =
    let none = none_is c.args.words.now c.is_empty.result c.is_empty.ensures c.if-is_empty.true in
    sym (ap (group_after c.args.group) none ∙ after-nil c.args.group)

pub push_all-requires-clause-open : goal.push_all-requires-clause-open
push_all-requires-clause-open c =
    let words = c.args.words.now in
    let plain : ArePlain words = c.if-are_plain.ensures (search rules) in
    let some = some_there words c.is_empty.result c.is_empty.ensures c.if-is_empty.false in
    let said = plain_said words plain in
    open_now (content_of c.args.inbox.now.store) (ints_said NoGroup words) (omega (arith, some, ap length said, length-map words (λ n. ItemMsg (IntItem n))))
    (rw c.in-None.is at c.requires.turn)

pub returns-in-None-clause-come : goal.returns-in-None-clause-come
returns-in-None-clause-come c =
    let plain : ArePlain c.args.words.now = c.if-are_plain.ensures (search rules) in
    rw c.in-None.is (come_as _ _ _ _ (sym (plain_said c.args.words.now plain)) c.push_all.ensures)

pub returns-in-None-clause-group : goal.returns-in-None-clause-group
returns-in-None-clause-group c =
    let plain : ArePlain c.args.words.now = c.if-are_plain.ensures (search rules) in
    rw c.in-None.is (sym (plain_after c.args.words.now plain))
