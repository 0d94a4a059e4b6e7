use Rattle.std.proofs.Common.{refl}
use Rattle.flow_edges.proofs.lanes.rings.Rings.put_reader.Goals as goal

pub returns-clause-put : goal.returns-clause-put
returns-clause-put c = refl
