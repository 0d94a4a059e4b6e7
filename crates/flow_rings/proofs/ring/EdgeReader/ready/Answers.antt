use Rattle.flow_rings.proofs.Lists.{not_none}
use Rattle.flow_rings.proofs.ring.EdgeReader.ready.Goals as goal

pub returns-clause-value : goal.returns-clause-value
returns-clause-value c = not_none _ _ c.is_empty.ensures.value
