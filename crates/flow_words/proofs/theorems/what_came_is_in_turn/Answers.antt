use Rattle.flow_words.proofs.OfKind.{came_fits}
use Rattle.flow_words.proofs.theorems.what_came_is_in_turn.Goals as goal

pub returns-clause-fits : goal.returns-clause-fits
returns-clause-fits c = λ r. came_fits r.ring
