use Rattle.flow_rings.proofs.ring.EdgeReader.after.Goals as goal

pub returns-clause-value : goal.returns-clause-value
returns-clause-value c = c.slots_after.ensures.value
