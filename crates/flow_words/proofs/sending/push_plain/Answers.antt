use Rattle.std.proofs.Common.{rules}
use Rattle.rtrb.specs.Ring as port
use Rattle.flow_words.proofs.Putting.{plain_follows, put_plain}
use Rattle.flow_words.proofs.sending.push_plain.Goals as goal

pub push_all-requires : goal.push_all-requires
push_all-requires c = plain_follows (port.sent c.args.ring.now) c.args.ints.now c.requires.whole c.requires.open c.requires.plain

pub returns-clause-whole : goal.returns-clause-whole
returns-clause-whole c =
    let done = c.if-not-push_all.ensures.done (search rules) in
    (put_plain (port.sent c.args.ring.now) c.args.ints.now _ done c.requires.whole c.requires.plain).1

pub returns-clause-put : goal.returns-clause-put
returns-clause-put c =
    let done = c.if-not-push_all.ensures.done (search rules) in
    (put_plain (port.sent c.args.ring.now) c.args.ints.now _ done c.requires.whole c.requires.plain).0
