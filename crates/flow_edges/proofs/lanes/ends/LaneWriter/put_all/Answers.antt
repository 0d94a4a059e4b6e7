use Rattle.std.proofs.Common.{subst}
use Rattle.flow_messages.specs.Kinds.{TakesItems}
use Rattle.flow_edges.specs.lanes.Lane.{kind_of}
use Rattle.flow_edges.proofs.lanes.ends.LaneWriter.put_all.Goals as goal

pub put_all-requires-clause-kind : goal.put_all-requires-clause-kind
put_all-requires-clause-kind c = subst (λ l. TakesItems (kind_of l) c.args.items) c.in-Scalars.is c.requires.takes

pub put_each-requires-clause-takes : goal.put_each-requires-clause-takes
put_each-requires-clause-takes c = subst (λ l. TakesItems (kind_of l) c.args.items) c.in-Messages.is c.requires.takes
