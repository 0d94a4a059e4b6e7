use Rattle.std.proofs.Common.{ap}
use Rattle.flow_words.specs.Words.{ints_sent}
use Rattle.flow_words.proofs.Putting.{same_ints}
use Rattle.flow_words.proofs.Quarters.{quarter_less, quarter_grows, quarter_none, quarter_some}
use Rattle.flow_words.proofs.ring.WriterWords.push.Goals as goal

pub returns-in-Ints-clause-done : goal.returns-in-Ints-clause-done
returns-in-Ints-clause-done c = rw c.in-Ints.is c.push_spelled.ensures.done

pub returns-in-Ints-clause-room : goal.returns-in-Ints-clause-room
returns-in-Ints-clause-room c = rw c.in-Ints.is (same_ints c.in-Ints.ring c.push_spelled.new.ring c.push_spelled.ensures.room.0, quarter_less _ _ c.push_spelled.ensures.room.1)

pub returns-in-Ints-clause-none : goal.returns-in-Ints-clause-none
returns-in-Ints-clause-none c = rw c.in-Ints.is (λ f. ap ints_sent (c.push_spelled.ensures.full f).0)

pub returns-in-Ints-clause-kept : goal.returns-in-Ints-clause-kept
returns-in-Ints-clause-kept c = rw c.in-Ints.is (λ f. quarter_grows _ _ (c.push_spelled.ensures.full f).1)

pub returns-in-Ints-clause-full : goal.returns-in-Ints-clause-full
returns-in-Ints-clause-full c = λ f. quarter_none _ (c.push_spelled.ensures.full f).2

pub returns-in-Ints-clause-succeeds : goal.returns-in-Ints-clause-succeeds
returns-in-Ints-clause-succeeds c = rw c.in-Ints.is (λ h. c.push_spelled.ensures.succeeds (quarter_some _ h))
