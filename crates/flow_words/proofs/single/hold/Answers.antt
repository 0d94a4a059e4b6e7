use Rattle.std.proofs.Common.{arith}
use Rattle.std.proofs.lemmas.List.{length-map}
use Rattle.flow_messages.specs.Stores.{content_of}
use Rattle.flow_words.specs.Words.{each_said}
use Rattle.flow_words.proofs.Holding.{some_there}
use Rattle.flow_words.proofs.InTurn.{open_now}
use Rattle.flow_words.proofs.single.hold.Goals as goal

pub hold_items-requires-clause-open : goal.hold_items-requires-clause-open
hold_items-requires-clause-open g c =
    let words = c.args.words.now in
    let said = g.W.Single.said in
    let some = some_there words c.is_empty.result c.is_empty.ensures c.if-is_empty.false in
    open_now (content_of c.args.inbox.now.store) (each_said said words) (omega (arith, some, length-map words said)) c.requires.turn
