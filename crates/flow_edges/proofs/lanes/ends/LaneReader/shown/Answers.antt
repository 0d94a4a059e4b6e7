use Rattle.flow_edges.proofs.OfLanes.Lists.{prefix-more}
use Rattle.flow_edges.proofs.lanes.ends.LaneReader.shown.Goals as goal

pub returns-in-Scalars : goal.returns-in-Scalars
returns-in-Scalars c = rw c.in-Scalars.is (prefix-more _ _ _ c.shown.ensures.first)
