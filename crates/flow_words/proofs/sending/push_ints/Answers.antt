use Rattle.std.proofs.Common.{arith}
use Rattle.std.proofs.lemmas.List.{length-map}
use Rattle.flow_messages.specs.declared.message.Msg.TheVariants.{Item as ItemMsg}
use Rattle.flow_messages.specs.declared.message.Item.TheVariants.{Int as IntItem}
use Rattle.flow_words.proofs.Putting.{same_ints}
use Rattle.flow_words.proofs.Quarters.{quarter_fewer, quarter_within}
use Rattle.flow_words.proofs.sending.push_ints.Goals as goal

pub push_each-requires-clause-certain : goal.push_each-requires-clause-certain
push_each-requires-clause-certain c = omega (arith, c.requires.certain, length-map c.args.ints.now (λ n. ItemMsg (IntItem n)))

pub returns-then-not-are_plain-clause-room : goal.returns-then-not-are_plain-clause-room
returns-then-not-are_plain-clause-room c = (c.push_each.ensures.room.0, omega (arith, c.push_each.ensures.room.1, length-map c.args.ints.now (λ n. ItemMsg (IntItem n))))

pub push_plain-requires-clause-certain : goal.push_plain-requires-clause-certain
push_plain-requires-clause-certain c = quarter_within _ _ c.requires.certain

pub returns-clause-room : goal.returns-clause-room
returns-clause-room c = (same_ints c.args.ring.now c.push_plain.new.ring c.push_plain.ensures.room.0, quarter_fewer _ _ _ c.push_plain.ensures.room.1)
