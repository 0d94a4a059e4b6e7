use Rattle.flow_edges.proofs.OfLanes.Came.{came_over}
use Rattle.flow_edges.proofs.lanes.theorems.received_came_over_the_ring.Goals as goal

pub returns : goal.returns
returns c = came_over
