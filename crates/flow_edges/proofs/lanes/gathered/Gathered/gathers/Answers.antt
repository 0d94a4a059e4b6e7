use Rattle.flow_words.specs.Edge.{sent}
use Rattle.flow_edges.proofs.OfLanes.Beside.{still_open}
use Rattle.flow_edges.proofs.lanes.gathered.Gathered.gathers.Goals as goal

pub returns-clause-open : goal.returns-clause-open
returns-clause-open c = still_open (sent c.makes_places.new.edge) (sent c.put_on.new.edge) c.add.new.self.items c.makes_places.ensures.open c.put_on.ensures.put
