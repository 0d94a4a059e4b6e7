use Rattle.std.proofs.Common.{ap}
use Rattle.flow_words.specs.declared.words.Group.TheVariants.{None as NoGroup}
use Rattle.flow_words.specs.Words.{ints_sent, group_after}
use Rattle.flow_words.proofs.Putting.{same_ints}
use Rattle.flow_words.proofs.Quarters.{quarter_grows}
use Rattle.flow_words.proofs.ring.WriterWords.has_room.Goals as goal

pub returns-in-Ints-clause-looked : goal.returns-in-Ints-clause-looked
returns-in-Ints-clause-looked c =
    let looked = c.are_free_for_ints.ensures.looked in
    rw c.in-Ints.is (same_ints c.in-Ints.ring c.are_free_for_ints.new.ring looked.0, ap (group_after NoGroup) looked.1, ap ints_sent looked.1, quarter_grows _ _ looked.2)
