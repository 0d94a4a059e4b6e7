use Rattle.flow_rings.proofs.ring.EdgeWriter.finish.Goals as goal

pub returns : goal.returns
returns c = c.in_ok-mark.ensures
