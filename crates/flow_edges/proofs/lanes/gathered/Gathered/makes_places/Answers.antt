use Rattle.flow_words.specs.Edge.{sent}
use Rattle.flow_edges.proofs.OfLanes.Beside.{still_open}
use Rattle.flow_edges.proofs.lanes.gathered.Gathered.makes_places.Goals as goal

pub returns-clause-open : goal.returns-clause-open
returns-clause-open c = still_open (sent c.args.edge.now) (sent c.put_on.new.edge) c.args.self.now.items c.requires.open c.put_on.ensures.put
