use Rattle.flow_edges.proofs.lanes.ends.LaneReader.take.Goals as goal

pub returns-in-Scalars-clause-some : goal.returns-in-Scalars-clause-some
returns-in-Scalars-clause-some c = rw c.in-Scalars.is c.take-in-Scalars.ensures.some

pub returns-in-Scalars-clause-open : goal.returns-in-Scalars-clause-open
returns-in-Scalars-clause-open c = rw c.in-Scalars.is c.take-in-Scalars.ensures.open

pub returns-in-Scalars-clause-fits : goal.returns-in-Scalars-clause-fits
returns-in-Scalars-clause-fits c = rw c.in-Scalars.is c.take-in-Scalars.ensures.fits
