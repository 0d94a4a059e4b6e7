use Rattle.std.proofs.Common.{◌∙◌}
use Rattle.flow_edges.proofs.OfLanes.Lists.{pocket_first}
use Rattle.flow_edges.proofs.lanes.ends.LaneReader.scalar_is_next.Goals as goal

pub returns-in-Scalars-clause-value : goal.returns-in-Scalars-clause-value
returns-in-Scalars-clause-value c = c.scalar_first.ensures ∙ pocket_first _ _ c.fill_if_empty.ensures.some
