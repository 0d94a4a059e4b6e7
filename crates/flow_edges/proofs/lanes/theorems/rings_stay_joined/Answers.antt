use Rattle.flow_edges.proofs.OfLanes.Meetings.{joins-kept, joins-seen, ends-kept, capacity-kept, met-begins, met-stopped}
use Rattle.flow_edges.proofs.lanes.theorems.rings_stay_joined.Goals as goal

pub returns : goal.returns
returns c = record { joined = joins-kept; there = joins-seen; ends = ends-kept; capacity = capacity-kept; begins = met-begins; stopped = met-stopped }
