use Rattle.std.proofs.Common.{refl}
use Rattle.flow_words.proofs.Said.{spells_end}
use Rattle.flow_words.proofs.words.spell.Goals as goal

pub returns-in-End-clause-spells : goal.returns-in-End-clause-spells
returns-in-End-clause-spells c = rw c.in-End.is (spells_end _ refl)
